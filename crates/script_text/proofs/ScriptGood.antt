-- Good lines: what a script that is read line by line comes to.
use Rattle.std.proofs.Common.{◌≡◌, ℕ, suc, ◌+◌, ◌-◌, ◌<◌, false, List, [], ◌∷◌, ◌++◌, map, length, take, drop, get_or, refl, sym, ap, subst, ◌∙◌, append_assoc, arith, add-one, below_more, All}
use Rattle.std.proofs.lemmas.List.{length-drop, append-nil, map-append}
use Rattle.std.proofs.Math.Seq.{drop-cons, take-suc}
use Rattle.std.specs.List.{AllByRecursion}
use Rattle.std.proofs.lemmas.List.Elements.{recursion_from_All}
use Rattle.image_model.specs.Layout.{Layout}
use Rattle.texts.specs.Reading.{is_nil}
use Rattle.script_text.specs.Line.{Order, image_line, order_line, image_text, order_text, IsScriptImage, IsOrder, IsLineOf}
use Rattle.script_text.specs.Script.{IsScript, NoCommand, IsGood, IsGoodAt, AreGood, IsFirstBad}
use Rattle.script_text.proofs.LineTexts.{one_value}

-- ---- one more line

-- no image's line is a command's
not_order : (i : Layout ℕ) (o : Order) → IsScriptImage i → IsOrder o → image_text i ≡ order_text o → ⊥
not_order i o isi iso same = let e = one_value (image_line i) (order_line o) isi iso same in cc

no_command : (images : List (Layout ℕ)) → AllByRecursion IsScriptImage images → NoCommand (map image_text images)
no_command [] all = tt
no_command (i ∷ images) all = (λ o iso same. not_order i o all.0 iso same, no_command images all.1)

-- a command among the lines
not_commandless : (images : List (Layout ℕ)) (o : Order) (orders : List Order) → IsOrder o → NoCommand (map image_text images ++ map order_text (o ∷ orders)) → ⊥
not_commandless [] o orders is none = none.0 o is refl
not_commandless (i ∷ images) o orders is none = not_commandless images o orders is none.1

-- where there are images alone, no line is a command's
pub only_images : (before : List (List ℕ)) (images : List (Layout ℕ)) (orders : List Order) → IsScript before images orders → orders ≡ [] → NoCommand before
only_images before images orders script none =
    let texts : before ≡ map image_text images = script.texts ∙ ap (λ os. map image_text images ++ map order_text os) none ∙ append-nil (map image_text images) in
    subst NoCommand (sym texts) (no_command images script.images_in_range)

-- an image's line is good where no command is before it
pub good_image : (before : List (List ℕ)) (line : List ℕ) (i : Layout ℕ) → IsLineOf line (image_line i) → NoCommand before → IsGood before line
good_image before line i is none = record { entry = image_line i; in_range = is.in_range; text = is.text; may_follow = none }

-- lines of which some stand for commands
pub some_command : (before : List (List ℕ)) (images : List (Layout ℕ)) (orders : List Order) → IsScript before images orders → is_nil orders ≡ false → NoCommand before → ⊥
some_command before images [] script some none = absurd cc
some_command before images (o ∷ orders) script some none = not_commandless images o orders script.orders_in_range.0 (subst NoCommand script.texts none)

all_pushed : {X : Type 0} (P : X → Type 0) (xs : List X) (x : X) → AllByRecursion P xs → P x → AllByRecursion P (xs ++ x ∷ [])
all_pushed P [] x all here = (here, tt)
all_pushed P (y ∷ xs) x all here = (all.0, all_pushed P xs x all.1 here)

-- one more image, where there is no command yet
pub image_added : (before : List (List ℕ)) (images : List (Layout ℕ)) (line : List ℕ) (i : Layout ℕ) → IsScript before images [] → IsLineOf line (image_line i) → IsScript (before ++ line ∷ []) (images ++ i ∷ []) []
image_added before images line i script is = record {
  texts =
      ap (λ l. l ++ line ∷ []) (script.texts ∙ append-nil (map image_text images)) ∙ ap (λ t. map image_text images ++ t ∷ []) is.text
      ∙ sym (map-append image_text images (i ∷ [])) ∙ sym (append-nil (map image_text (images ++ i ∷ [])));
  images_in_range = all_pushed IsScriptImage images i script.images_in_range is.in_range;
  orders_in_range = tt;
}

-- one more command
pub order_added : (before : List (List ℕ)) (images : List (Layout ℕ)) (orders : List Order) (line : List ℕ) (o : Order) → IsScript before images orders → IsLineOf line (order_line o)
    → IsScript (before ++ line ∷ []) images (orders ++ o ∷ [])
order_added before images orders line o script is = record {
  texts =
      ap (λ l. l ++ line ∷ []) script.texts ∙ append_assoc (map image_text images) (map order_text orders) (line ∷ [])
      ∙ ap (λ t. map image_text images ++ (map order_text orders ++ t ∷ [])) is.text ∙ ap (λ l. map image_text images ++ l) (sym (map-append order_text orders (o ∷ [])));
  images_in_range = script.images_in_range;
  orders_in_range = all_pushed IsOrder orders o script.orders_in_range is.in_range;
}

-- ---- the next of the lines

pub record IsNext (all : List (List ℕ)) (n : ℕ) (line : List ℕ) (rest : List (List ℕ)) : Type 0 where
  pub within : n < length all
  pub taken : take (n + 1) all ≡ take n all ++ line ∷ []
  pub left : drop (n + 1) all ≡ rest
  pub here : get_or all n [] ≡ line

not_past : (all : List (List ℕ)) (n : ℕ) (line : List ℕ) (rest : List (List ℕ)) → drop n all ≡ line ∷ rest → n < length all
not_past all n line rest e = omega (arith, length-drop n all, ap length e)

pub next_is : (all : List (List ℕ)) (n : ℕ) (line : List ℕ) (rest : List (List ℕ)) → drop n all ≡ line ∷ rest → IsNext all n line rest
next_is all n line rest e =
    let lt = not_past all n line rest e in
    let cut : get_or all n [] ∷ drop (suc n) all ≡ line ∷ rest = sym (drop-cons all n [] lt) ∙ e in
    let first : get_or all n [] ≡ line = cc in
    let others : drop (suc n) all ≡ rest = cc in
    record {
      within = lt;
      taken = rw add-one (take-suc all n [] lt ∙ ap (λ (l : List ℕ). take n all ++ l ∷ []) first);
      left = rw add-one others;
      here = first;
    }

-- ---- a script that is read line by line

pub none_good : (all : List (List ℕ)) → AreGood all 0
none_good all k lt = absurd (omega arith)

pub more_good : (all : List (List ℕ)) (n : ℕ) (line : List ℕ) (rest : List (List ℕ)) → IsNext all n line rest → AreGood all n → IsGood (take n all) line → AreGood all (n + 1)
more_good all n line rest next good here =
    let P : ℕ → Type 0 = IsGoodAt all in
    below_more P n good (rw next.here here)

pub first_bad : (all : List (List ℕ)) (n : ℕ) (line : List ℕ) (rest : List (List ℕ)) → IsNext all n line rest → AreGood all n
    → (IsGood (take n all) line → ⊥) → IsFirstBad all (n + 1)
first_bad all n line rest next good bad =
    let back : n + 1 - 1 ≡ n = omega arith in
    record {
      positive = omega arith;
      within = omega (arith, next.within);
      good_before = rw back good;
      bad = rw (back, next.here) bad;
    }

-- ---- the lines of images

-- images that scripts may hold are a script by themselves
pub own_script : (images : List (Layout ℕ)) → All IsScriptImage images → IsScript (map image_text images) images []
own_script images good = record { texts = sym (append-nil (map image_text images)); images_in_range = recursion_from_All IsScriptImage images good; orders_in_range = tt }
