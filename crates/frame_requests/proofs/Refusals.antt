-- Why words and lines are refused.
use Rattle.std.proofs.Common.{◌≡◌, ◌≢◌, ℕ, List, [], ◌++◌, Some, None, refl, ap, subst, ◌∙◌}
use Rattle.std.specs.List.{flat_map}
use Rattle.texts.specs.Parts.{parts_of}
use Rattle.frame_edits.specs.Edits.{Edits, edits}
use Rattle.frame_edits.specs.Lists.{Adds, AreEdits, HaveEdits, NeedsMemory, NeedsPlace, framing_after, plain, with_lines}
use Rattle.frame_edits.specs.Words.{Named}
use Rattle.frame_edits.specs.declared.lists.Edits.{Edits as Made}
use Rattle.frame_texts.specs.declared.fault.WordsFault.{WordsFault}
use Rattle.frame_texts.specs.declared.fault.WordsFault.TheVariants.{NoEdit, Memory as NoMemory}
use Rattle.frame_requests.specs.Words.{AreRefused, AreWords, RefusesLines, RefusesWords, refusal_of}
use Rattle.frame_requests.specs.declared.words.Refusal.{Refusal}
use Rattle.frame_requests.specs.declared.words.Refusal.TheVariants.{Empty, NoFrame}

-- a fault of words is why they are refused
pub no_words : (words : List (List ℕ)) (fault : WordsFault) → (fault ≡ NoEdit → (named : List Named) → AreEdits named None words → ⊥) → (fault ≡ NoMemory → HaveEdits None words) → (fault ≡ NoMemory → NeedsMemory None words) → RefusesWords words (refusal_of fault)
no_words words NoEdit none are memory = none refl
no_words words NoMemory none are memory = record { are = are refl; needs = memory refl }

pub no_lines : (text : List ℕ) (fault : WordsFault) → (fault ≡ NoEdit → with_lines (edits [] None) (parts_of 10 text) ≡ None) → (fault ≡ NoMemory → with_lines (edits [] None) (parts_of 10 text) ≢ None) → (fault ≡ NoMemory → NeedsPlace (edits [] None) (parts_of 10 text)) → RefusesLines text (refusal_of fault)
no_lines text NoEdit none are memory = none refl
no_lines text NoMemory none are memory = record { are = are refl; needs = memory refl }

-- what words add to no edits are the edits that the words are
pub added_words : (words : List (List ℕ)) (old new : Made) → old.steps.items ≡ [] → old.framing ≡ None → Adds words old new → AreWords words (plain new)
added_words words old new none whole added = record {
  edits = added.edits;
  are = subst (λ framing. AreEdits added.edits framing words) whole added.are;
  steps = added.steps ∙ ap (λ steps. steps ++ flat_map (λ n. n.steps) added.edits) none;
  framing = added.framing ∙ ap (framing_after added.edits) whole;
}

-- so is a refusal of what they are
pub words_refused : (words : List (List ℕ)) (made : Edits) (why : Refusal) → AreWords words made → AreRefused made why → RefusesWords words why
words_refused words made Empty are refused = record { edits = made; are = are; refused = refused }
words_refused words made (NoFrame at) are refused = record { edits = made; are = are; refused = refused }
words_refused words made _ are refused = absurd refused

pub lines_refused : (text : List ℕ) (made : Edits) (why : Refusal) → with_lines (edits [] None) (parts_of 10 text) ≡ Some made → AreRefused made why → RefusesLines text why
lines_refused text made Empty are refused = record { edits = made; are = are; refused = refused }
lines_refused text made (NoFrame at) are refused = record { edits = made; are = are; refused = refused }
lines_refused text made _ are refused = absurd refused
