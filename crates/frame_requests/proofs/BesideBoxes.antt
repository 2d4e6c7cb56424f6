-- Why edits beside a list of boxes are refused.
use Rattle.std.proofs.Common.{◌≡◌, ◌≢◌, ℕ, true, List, [], ◌∷◌, Option, Some, None, refl, inl, inr}
use Rattle.std.specs.List.{flat_map}
use Rattle.texts.specs.Parts.{parts_of}
use Rattle.frame_texts.specs.Boxes.{each_box}
use Rattle.frame_edits.specs.Edits.{Edits, edits}
use Rattle.frame_edits.specs.Lists.{framing_after, with_lines}
use Rattle.frame_edits.specs.declared.box_covers.BoxStyle.{BoxStyle}
use Rattle.frame_requests.specs.Asked.{AreNamed, AskedIsRefused, NamedAreRefused, told}
use Rattle.frame_requests.specs.declared.words.Refusal.{Refusal}
use Rattle.frame_requests.specs.declared.words.Refusal.TheVariants.{NoEdits, NoText, Empty, NoFrame, NoBoxes, EmptyBoxes, NoOption, Beside, OneInput, Memory}

some_of : (found : Option Edits) → found ≢ None → (e : Edits) × (found ≡ Some e)
some_of None some = absurd (some refl)
some_of (Some e) some = (e, refl)

-- where there is no memory for edits there are edits
are_there : (file : Option (List ℕ)) (words : List (List ℕ)) → NamedAreRefused file words true Memory → (e : Edits) × AreNamed file words true e
are_there (Some text) words need = some_of (with_lines (edits [] None) (parts_of 10 text)) need.are
are_there None [] need = absurd need
are_there None (w ∷ ws) need =
    let es = need.are.0 in
    (edits (flat_map (λ n. n.steps) es) (framing_after es None), record { edits = es; are = need.are.1; steps = refl; framing = refl })

by_list : (style : BoxStyle) (boxes : List ℕ) (hold : Option ℕ) (file : Option (List ℕ)) (words : List (List ℕ)) (found : Option (List _)) → each_box boxes ≡ found → NamedAreRefused file words true Memory → AskedIsRefused style (Some boxes) hold file words (told Memory boxes)
by_list style boxes hold file words None is need = rw is
    (let e = are_there file words need in
    inr (record { others = e.0; are = e.1; refused = is }))
by_list style boxes hold file words (Some read) is need = rw is (inl (record { refused = need; boxes_are = λ none. absurd cc }))

pub refused_beside : (style : BoxStyle) (boxes : List ℕ) (hold : Option ℕ) (file : Option (List ℕ)) (words : List (List ℕ)) (why : Refusal) → NamedAreRefused file words true why → AskedIsRefused style (Some boxes) hold file words (told why boxes)
refused_beside style boxes hold file words Memory need = by_list style boxes hold file words (each_box boxes) refl need
refused_beside style boxes hold file words NoEdits refused = inl (record { refused = refused; boxes_are = tt })
refused_beside style boxes hold file words NoText refused = inl (record { refused = refused; boxes_are = tt })
refused_beside style boxes hold file words Empty refused = inl (record { refused = refused; boxes_are = tt })
refused_beside style boxes hold file words (NoFrame at) refused = inl (record { refused = refused; boxes_are = tt })
refused_beside style boxes hold file words NoBoxes refused = inl (record { refused = refused; boxes_are = tt })
refused_beside style boxes hold file words EmptyBoxes refused = inl (record { refused = refused; boxes_are = tt })
refused_beside style boxes hold file words (NoOption misread) refused = inl (record { refused = refused; boxes_are = tt })
refused_beside style boxes hold file words (Beside at) refused = inl (record { refused = refused; boxes_are = tt })
refused_beside style boxes hold file words OneInput refused = inl (record { refused = refused; boxes_are = tt })
