-- A script that is read line by line: what it is when its next line is read.
use Rattle.std.proofs.Common.{◌≡◌, ℕ, ◌+◌, ◌-◌, ◌^◌, Bool, true, false, not, IsTrue, min, List, [], ◌∷◌, ◌++◌, take, drop, refl, sym, ap, subst, ◌∙◌, arith, Some}
use Rattle.image_model.specs.Layout.{Layout}
use Rattle.imgref.specs.Image.{vec_layout}
use Rattle.texts.specs.Reading.{is_nil}
use Rattle.texts.proofs.FieldNumbers.{not_true}
use Rattle.texts.proofs.Options.{nil_is}
use Rattle.script_text.specs.Line.{Order, order_of, order_line, is_order, entry_of, IsLineOf}
use Rattle.script_text.specs.Script.{IsScript, NoCommand, IsGood, AreGood, IsFirstBad, lines_left, IsRead, ReadsOn}
use Rattle.script_text.specs.declared.line.Line.{Line}
use Rattle.script_text.specs.declared.line.Line.TheVariants.{Image, Command as Ordered}
use Rattle.script_text.specs.declared.script.Script.{Script}
use Rattle.script_text.proofs.ScriptGood.{only_images, good_image, some_command, image_added, order_added, next_is, more_good, first_bad}

commanded : (s : Script) (lines : List (List ℕ)) (images : List (Layout ℕ)) (orders : List Order) → IsRead s lines images orders → IsTrue s.has_command → NoCommand (take s.number lines) → ⊥
commanded s lines images orders r has none =
    some_command (take s.number lines) images orders r.script (not_true (is_nil orders) (λ e. let no : false ≡ true = ap not (sym e) ∙ sym r.commanded ∙ has in cc)) none

-- the next line isn't good
pub not_good : (s : Script) (lines : List (List ℕ)) (images : List (Layout ℕ)) (orders : List Order) (n : ℕ) (text : List ℕ) (rest : List (List ℕ)) → lines_left s ≡ text ∷ rest → n ≡ min (s.number + 1) (2 ^ 64 - 1)
    → ((before : List (List ℕ)) → (IsTrue s.has_command → NoCommand before → ⊥) → IsGood before text → ⊥) → IsRead s lines images orders → IsFirstBad lines n
not_good s lines images orders n text rest here count bad r =
    let next = next_is lines s.number text rest (r.left ∙ here) in
    let e : s.number + 1 ≡ n = omega (arith, next.within, r.countable) in
    subst (IsFirstBad lines) e (first_bad lines s.number text rest next r.good (bad (take s.number lines) (commanded s lines images orders r)))

-- one more line is read, with these images and commands
more_read : (s t : Script) (lines : List (List ℕ)) (images news : List (Layout ℕ)) (orders after : List Order) (text : List ℕ) → lines_left s ≡ text ∷ lines_left t → t.number ≡ min (s.number + 1) (2 ^ 64 - 1)
    → t.has_command ≡ not (is_nil after) → (IsScript (take s.number lines) images orders → IsScript (take s.number lines ++ text ∷ []) news after) → IsGood (take s.number lines) text
    → IsRead s lines images orders → IsRead t lines news after
more_read s t lines images news orders after text here count has added good r =
    let next = next_is lines s.number text (lines_left t) (r.left ∙ here) in
    let e : s.number + 1 ≡ t.number = omega (arith, next.within, r.countable) in
    record {
      script = subst (λ n. IsScript (take n lines) news after) e (subst (λ ls. IsScript ls news after) (sym next.taken) (added r.script));
      good = subst (AreGood lines) e (more_good lines s.number text (lines_left t) next r.good good);
      left = ap (λ n. drop n lines) (sym e) ∙ next.left;
      within = omega (arith, next.within);
      countable = r.countable;
      commanded = has;
    }

pushed : (orders : List Order) (o : Order) → true ≡ not (is_nil (orders ++ o ∷ []))
pushed [] o = refl
pushed (p ∷ orders) o = refl

false_not : (b : Bool) → false ≡ not b → b ≡ true
false_not true e = refl
false_not false e = absurd cc

-- the next line is good
pub reads_on : (s t : Script) (line : Line) (lines : List (List ℕ)) (images : List (Layout ℕ)) (orders : List Order) (text : List ℕ) → lines_left s ≡ text ∷ lines_left t → t.number ≡ min (s.number + 1) (2 ^ 64 - 1)
    → t.has_command ≡ is_order (entry_of line) → IsLineOf text (entry_of line) → (IsTrue s.has_command → IsTrue (is_order (entry_of line))) → IsRead s lines images orders
    → ReadsOn t lines images orders (Some line)
reads_on s t (Image i) lines images orders text here count has is follows r =
    let first : s.has_command ≡ false = not_true s.has_command (λ yes. let no : false ≡ true = follows yes in cc) in
    let none : orders ≡ [] = nil_is orders (false_not (is_nil orders) (sym first ∙ r.commanded)) in
    let before = only_images (take s.number lines) images orders r.script none in (
      none,
      more_read s t lines images (images ++ vec_layout i ∷ []) orders [] text here count has
          (λ script. image_added (take s.number lines) images text (vec_layout i) (subst (IsScript (take s.number lines) images) none script) is) (good_image (take s.number lines) text (vec_layout i) is before) r,
    )
reads_on s t (Ordered c) lines images orders text here count has is follows r =
    more_read s t lines images images orders (orders ++ order_of c ∷ []) text here count (has ∙ pushed orders (order_of c))
    (λ script. order_added (take s.number lines) images orders text (order_of c) script is) (record { entry = order_line (order_of c); in_range = is.in_range; text = is.text; may_follow = tt }) r
