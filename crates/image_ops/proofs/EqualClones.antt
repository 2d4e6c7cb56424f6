-- Clones that equal what they were made of, row by row.
use Rattle.std.proofs.Common.{◌≡◌, ℕ, suc, ◌+◌, ◌-◌, ◌≤◌, List, [], ◌∷◌, ◌++◌, length, take, drop, refl, sym, subst, ap, ◌∙◌, append_assoc, append-nil, take_all, length-append, arith}
use Rattle.image_ops.proofs.ShortRows.{front_parts}
use Rattle.std.specs.List.{AllZip, AppendsClones}
use Rattle.std.specs.Vec.{vec_len, vec_capacity}
use Rattle.std.specs.declared.vec.Vec.{Vec}
use Rattle.std.specs.declared.result.Result.{Result}
use Rattle.std.specs.declared.result.Result.TheVariants.{Ok, Err}
use Rattle.std.specs.Result.{OnOk}
use Rattle.image_model.specs.Layout.{Layout}
use Rattle.image_model.specs.Rows.{row}
use Rattle.image_model.proofs.Rows.{joined_upto, joined_upto_more}
use Rattle.image_ops.specs.Clones.{ClonesEqual, GetsClones}

module _ {T : Type 0} (is_clone : T → T → Type 0) where
  all_clones : (xs ys us vs : List T) → AllZip is_clone xs ys → AllZip is_clone us vs → AllZip is_clone (xs ++ us) (ys ++ vs)
  all_clones [] [] us vs h k = k
  all_clones [] (y ∷ ys) us vs h k = absurd h
  all_clones (x ∷ xs) [] us vs h k = absurd h
  all_clones (x ∷ xs) (y ∷ ys) us vs h k = (h.0, all_clones xs ys us vs h.1 k)

  -- clones of cells whose clones equal them are those cells
  pub equal_clones : (xs ys : List T) → ClonesEqual is_clone xs → AllZip is_clone xs ys → ys ≡ xs
  equal_clones [] [] e h = refl
  equal_clones [] (y ∷ ys) e h = absurd h
  equal_clones (x ∷ xs) [] e h = absurd h
  equal_clones (x ∷ xs) (y ∷ ys) e h =
      let rest : ClonesEqual is_clone xs = λ k d l. e (suc k) d (omega arith) in
      λ i. e 0 x (omega arith) y h.0 i ∷ equal_clones xs ys rest h.1 i

  -- and likewise where they were appended to none
  pub appended_to_none : (old new cells : List T) → old ≡ [] → ClonesEqual is_clone cells → AppendsClones is_clone old new cells → new ≡ cells
  appended_to_none old new cells none e a = a.1 ∙ ap (λ xs. xs ++ a.0) none ∙ equal_clones cells a.0 e a.2

  module _ {Z : Type 0} where
    -- no clone
    pub gets_none : (buf : Vec T Z) → GetsClones is_clone buf buf []
    gets_none buf = record { room = omega arith; len = omega arith; clones = ([], sym (append-nil buf.items), tt) }

    -- clones of cells, and then of others
    pub gets_both : (old now new : Vec T Z) (xs ys : List T) → GetsClones is_clone old now xs → GetsClones is_clone now new ys → GetsClones is_clone old new (xs ++ ys)
    gets_both old now new xs ys a b = record {
      room = omega (arith, a.room, b.room);
      len = omega (arith, a.len, b.len, length-append xs ys);
      clones =
          let us = a.clones.0 in
          let vs = b.clones.0 in
          (us ++ vs, b.clones.1 ∙ ap (λ l. l ++ vs) a.clones.1 ∙ append_assoc old.items us vs, all_clones xs us ys vs a.clones.2 b.clones.2);
    }

    -- clones that were pushed
    pub gets_pushed : (old new : Vec T Z) (xs ys : List T) → AllZip is_clone xs ys → vec_capacity new ≡ vec_capacity old → vec_len new ≡ vec_len old + length xs → new.items ≡ old.items ++ ys → GetsClones is_clone old new xs
    gets_pushed old new xs ys h room len items = record { room = omega (arith, room); len = len; clones = (ys, items, h) }

    module _ (cells : List T) (old now : Vec T Z) (n : ℕ) (so : GetsClones is_clone old now (take n cells)) where
      -- clones of the first cells, and of those after them
      pub gets_upto : (new : Vec T Z) (m : ℕ) → n ≤ m → m ≤ length cells → GetsClones is_clone now new (take (m - n) (drop n cells)) → GetsClones is_clone old new (take m cells)
      gets_upto new m order within more =
          subst (GetsClones is_clone old new) (sym (front_parts cells n m order within)) (gets_both old now new (take n cells) (take (m - n) (drop n cells)) so more)

      -- and of all that are left
      pub gets_rest : (new : Vec T Z) → n ≤ length cells → GetsClones is_clone now new (take (length cells - n) (drop n cells)) → GetsClones is_clone old new cells
      gets_rest new within more = subst (GetsClones is_clone old new) (take_all (length cells) cells (omega arith)) (gets_upto new (length cells) within (omega arith) more)

      -- and likewise where a call that may fail appended them
      pub gets_rest_ok : {E : Type 0} (r : Result (Unit {0}) E) (new : Vec T Z) → n ≤ length cells → OnOk r (GetsClones is_clone now new (take (length cells - n) (drop n cells))) → OnOk r (GetsClones is_clone old new cells)
      gets_rest_ok (Ok _) new within more = gets_rest new within more
      gets_rest_ok (Err _) new within more = tt

  module _ (l : Layout T) where
    -- the clones of the first rows
    abbrev pub AreClonesUpto : ℕ → List T → Type 0
    AreClonesUpto n pixels = AllZip is_clone (joined_upto l n) pixels

    -- with those of one row more
    pub clones_more : (n : ℕ) (old new cells : List T) → cells ≡ row l n → AreClonesUpto n old → AppendsClones is_clone old new cells → AreClonesUpto (n + 1) new
    clones_more n old new cells e h a =
        rw (joined_upto_more l n, a.1)
        (all_clones (joined_upto l n) old (row l n) a.0 h (subst (λ us. AllZip is_clone us a.0) e a.2))
