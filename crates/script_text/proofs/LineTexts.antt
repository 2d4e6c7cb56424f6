-- Lines: what one is read as has that text, what has a text is read from it, and no text is that of two values.
use Rattle.std.proofs.Common.{◌≡◌, ℕ, cond, List, [], ◌∷◌, Option, Some, sym, ap, subst, ◌∙◌, inl, inr, Result, Ok, Err, codes, IfOk, IsErrOf}
use Rattle.std.specs.Option.{option_map}
use Rattle.std.specs.Str.{bytes_eq}
use Rattle.std.proofs.lemmas.Slice.Eq.{bytes_eq-Decides}
use Rattle.script_text.specs.Line.{Entry, image_line, order_line, entry_fields, entry_text, entry_of, IsEntry, IsLineOf, EachTextHasOneValue}
use Rattle.texts.specs.Parts.{parts_of}
use Rattle.script_text.specs.Reading.{Gives, image_in, order_in, line_in}
use Rattle.script_text.specs.declared.line.Line.{Line}
use Rattle.script_text.specs.declared.fault.LineFault.{LineFault}
use Rattle.script_text.specs.declared.fault.LineFault.TheVariants.{Bad}
use Rattle.texts.proofs.PartsJoined.{parts_of-join}
use Rattle.texts.proofs.Options.{some, some_is, map_some, choice}
use Rattle.texts.proofs.FieldTexts.{join_is}
use Rattle.script_text.proofs.LineImages.{image_is, image_back, lacks-image}
use Rattle.script_text.proofs.LineOrders.{order_is, order_back, order_word, lacks-order}

-- the fields are those of a value
abbrev HasFields : List (List ℕ) → Entry → Type 0
HasFields fields e = (fields ≡ entry_fields e) × IsEntry e

-- a line with this word is read by what comes after it, and one with another word by the rest
by_word : {A : Type 0} (word text : List ℕ) (fields : List (List ℕ)) (read : Option A) (stands_for : A → Entry) (rest : Option Entry)
    → ((x : A) → read ≡ Some x → HasFields (text ∷ fields) (stands_for x)) → ((e : Entry) → rest ≡ Some e → HasFields (word ∷ fields) e)
    → (e : Entry) → cond (bytes_eq word text) (option_map stands_for read) rest ≡ Some e → HasFields (word ∷ fields) e
by_word word text fields read stands_for rest here others e h =
    elim (choice (bytes_eq word text) (option_map stands_for read) rest (some e) h) [
      | inl t ↦ let m = map_some read stands_for e t.1 in
          let same : text ≡ word = sym ((bytes_eq-Decides word text).0 t.0) in
          subst (HasFields (word ∷ fields)) m.2 (subst (λ (w : List ℕ). HasFields (w ∷ fields) (stands_for m.0)) same (here m.0 m.1))
      | inr t ↦ others e t.1
    ]

line_in-is : (fields : List (List ℕ)) (e : Entry) → line_in fields ≡ Some e → HasFields fields e
unfolding line_in
line_in-is [] e h = absurd cc
line_in-is (word ∷ fields) e h =
    by_word word (codes "image") fields (image_in fields) image_line (option_map order_line (order_in word fields)) (image_is fields)
    (λ d is. let m = map_some (order_in word fields) order_line d is in subst (HasFields (word ∷ fields)) m.2 (order_is word fields m.0 m.1)) e h

line_in-back : (e : Entry) → IsEntry e → line_in (entry_fields e) ≡ Some e
unfolding line_in
line_in-back (image_line i) is = ap (option_map image_line) (image_back i is)
line_in-back (order_line o) is = rw (order_word o is) (ap (option_map order_line) (order_back o is))

-- the text of a value is cut at its spaces into the value's fields
parts_of-entry : (e : Entry) → IsEntry e → parts_of 32 (entry_text e) ≡ entry_fields e
parts_of-entry (image_line i) is = parts_of-join 32 _ _ (lacks-image i is)
parts_of-entry (order_line o) is = parts_of-join 32 _ _ (lacks-order o is)

line_is : (line : List ℕ) (e : Entry) → line_in (parts_of 32 line) ≡ Some e → (line ≡ entry_text e) × IsEntry e
line_is line e h = let l = line_in-is (parts_of 32 line) e h in (join_is 32 line (entry_fields e) l.0, l.1)

line_back : (e : Entry) → IsEntry e → line_in (parts_of 32 (entry_text e)) ≡ Some e
line_back e is = ap line_in (parts_of-entry e is) ∙ line_in-back e is

pub one_value : EachTextHasOneValue
one_value d e isd ise same = some_is d e (sym (line_back d isd) ∙ ap (λ (t : List ℕ). line_in (parts_of 32 t)) same ∙ line_back e ise)

-- ---- what a function that reads a line has found

pub line_found : (r : Result Line LineFault) (line : List ℕ) → Gives entry_of r (line_in (parts_of 32 line)) → IfOk r (λ l. IsLineOf line (entry_of l))
line_found (Ok l) line g =
    let found = line_is line (entry_of l) g in
    record { in_range = found.1; text = found.0; only = λ other is text. one_value other (entry_of l) is found.1 (sym text ∙ found.0) }
line_found (Err e) line g = tt

pub line_bad : (r : Result Line LineFault) (line : List ℕ) → Gives entry_of r (line_in (parts_of 32 line)) → IsErrOf r Bad → (e : Entry) → IsEntry e → line ≡ entry_text e → ⊥
line_bad (Err Bad) line g b e is same = let found = ap (λ (t : List ℕ). line_in (parts_of 32 t)) same ∙ line_back e is in cc
line_bad _ line g b e is same = absurd cc
