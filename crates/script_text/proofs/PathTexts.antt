-- Paths: what one is read as has that text, and what has a text is read from it.
use Rattle.std.proofs.Common.{◌≡◌, ◌≢◌, ℕ, ◌<◌, true, false, List, [], ◌∷◌, map, Some, refl, ap, subst, ◌∙◌, arith, eqb, inl, inr}
use Rattle.std.specs.List.{join_with_byte}
use Rattle.std.specs.Str.{bytes_eq}
use Rattle.std.proofs.lemmas.Slice.Eq.{bytes_eq-Decides}
use Rattle.image_shape.specs.declared.window.Window.{Window}
use Rattle.texts.specs.Fields.{window_text, IsWindow}
use Rattle.script_text.specs.Fields.{path_text, IsPath}
use Rattle.texts.specs.Parts.{parts_of}
use Rattle.texts.specs.Reading.{window_of, each_of}
use Rattle.script_text.specs.Reading.{path_of}
use Rattle.texts.proofs.FieldNumbers.{not_true}
use Rattle.texts.proofs.PartsCut.{split_nonempty}
use Rattle.texts.proofs.PartsJoined.{lacks, AllLack, parts_of-join, lacks-join}
use Rattle.texts.proofs.Options.{some, some_is, choice}
use Rattle.texts.proofs.FieldTexts.{ReadsText, each_is, each_back, join_is, window_law, lacks-window_text}

lacks-windows : (c : ℕ) (ws : List Window) → c < 48 → 44 ≢ c → IsPath ws → AllLack c (map window_text ws)
lacks-windows c [] small ne all = tt
lacks-windows c (w ∷ ws) small ne all = (lacks-window_text c w small ne all.0, lacks-windows c ws small ne all.1)

-- no window has a dash
no_dash : (w : Window) (ws : List Window) → IsPath (w ∷ ws) → bytes_eq (join_with_byte 47 (map window_text (w ∷ ws))) (45 ∷ []) ≡ false
no_dash w ws all =
    let text = join_with_byte 47 (map window_text (w ∷ ws)) in
    let none : lacks 45 text ≡ true = lacks-join 45 47 (map window_text (w ∷ ws)) (omega arith) (lacks-windows 45 (w ∷ ws) (omega arith) (omega arith) all) in
    not_true (bytes_eq text (45 ∷ [])) (λ same. absurd (let p : lacks 45 text ≡ false = rw ((bytes_eq-Decides text (45 ∷ [])).0 same) refl in cc))

-- windows that are joined by slashes are a path's text
joined_windows : (field : List ℕ) (ws : List Window) → parts_of 47 field ≡ map window_text ws → field ≡ path_text ws
unfolding path_text
joined_windows field [] e = absurd (split_nonempty (λ b. eqb b 47) field e)
joined_windows field (w ∷ ws) e = join_is 47 field (map window_text (w ∷ ws)) e

path_is : (field : List ℕ) (ws : List Window) → path_of field ≡ Some ws → (field ≡ path_text ws) × IsPath ws
unfolding path_of
path_is field ws e =
    elim (choice (bytes_eq field (45 ∷ [])) (some []) (each_of window_of (parts_of 47 field)) (some ws) e) [
      | inl t ↦ subst (λ (vs : List Window). (field ≡ path_text vs) × IsPath vs) (some_is [] ws t.1) (unfold path_text in (bytes_eq-Decides field (45 ∷ [])).0 t.0, tt)
      | inr t ↦ let all = each_is window_of window_text IsWindow window_law (parts_of 47 field) ws t.1 in (joined_windows field ws all.0, all.1)
    ]

path_back : (ws : List Window) → IsPath ws → path_of (path_text ws) ≡ Some ws
unfolding path_of path_text
path_back [] all = refl
path_back (w ∷ ws) all =
    rw (no_dash w ws all)
    (ap (each_of window_of) (parts_of-join 47 (window_text w) (map window_text ws) (lacks-windows 47 (w ∷ ws) (omega arith) (omega arith) all))
    ∙ each_back window_of window_text IsWindow window_law (w ∷ ws) all)

pub path_law : ReadsText path_of path_text IsPath
path_law = record { is = path_is; back = path_back }

-- a path has no space
pub lacks-path : (ws : List Window) → IsPath ws → lacks 32 (path_text ws) ≡ true
unfolding path_text
lacks-path [] all = refl
lacks-path (w ∷ ws) all = lacks-join 32 47 (map window_text (w ∷ ws)) (omega arith) (lacks-windows 32 (w ∷ ws) (omega arith) (omega arith) all)
