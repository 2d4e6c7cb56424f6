-- The first pixel is taken out of cells that are lent, and the cells before it stay as they are. Assumes `Logic`.
use types.Follow.{takes_two}
use denote.Struct.Lending.{lent_out}
use borrow.Table.Elements.{length_app}
use Rattle.std.proofs.Common.{◌≡◌, refl, sym, ap, ◌∙◌, ℕ, suc, ◌+◌, ◌<◌, ◌^◌, List, [], ◌∷◌, ◌++◌, length, w64}
use Rattle.std.specs.contracts.marker.PhantomData as marker
use Rattle.borrow_laws.proofs.Walking.{Ura, Lifetime, Val, vptr, vint, vstruct, vnil, SProp, ent, emp, sep, ex, wand, coded_list, Fml, Lft, GName, Share, flft, fobs, fbor, fhide, fsep, feq, fex, fauth, fres, after₂, ‵, ◌⊛◌, some, later, ◌$◌, ◌∵◌, !, qed, move, keep, drop, use1, use2, split, group, pick, fsplit, fjoin, fjoin3, fpack, feq_i, feq_l, show, await, updating, now, each, assume, done, Logic, sem, open_ref, cells, Arr, Body, usize, follows, mem, hidden_shr, unhide, RattleType, ptr_val, block_ptr, MutRef, NamedLft, makes_shadow, MutSlice, shape, to, Struct, at, cut_app, join_app}
use Rattle.image_pixels.specs.contracts.pixels_mut.PixelsIterMut as P
use Rattle.image_pixels.specs.declared.pixels_mut.PixelsIterMut.{PixelsIterMut}
use Rattle.image_pixels.proofs.Cursors.{words}

-- what the data fields own
module _ (a : NamedLft) (R : RattleType) where
  abbrev pub Data : RattleType
  Data = Struct (shape (P.the_type a R))

  pub made : {M : Type 1} {𝓤 : Ura M} (𝓛 : Logic 𝓤) (d : PixelsIterMut R.Denot) (b o : ℕ) → d.current ≡ block_ptr b o → d.remaining < 2 ^ 64 → d.rows_left < 2 ^ 64 → d.width < 2 ^ 64 → d.pad < 2 ^ 64
      → ent 𝓤 (emp 𝓤) (sem 𝓛 (Data.own_val (to (P.the_type a R) d) (words b o d.remaining d.rows_left d.width d.pad ∷ [])))
  made 𝓛 d b o e fl fr fw fp = makes_shadow 𝓛 (Data.own_val (to (P.the_type a R) d) (words b o d.remaining d.rows_left d.width d.pad ∷ []))
      (λ vss. (tt, (tt, ((tt, tt), ((tt, tt), ((tt, tt), ((tt, tt), ((λ uss. (tt, tt)), tt)))))))) (
        (vptr b o ∷ [], (vint w64 d.remaining ∷ [], (vint w64 d.rows_left ∷ [], (vint w64 d.width ∷ [], (vint w64 d.pad ∷ [], (vstruct vnil ∷ [], tt)))))),
        (refl, (ap (λ p. ptr_val p ∷ []) (sym e), ((refl, fl), ((refl, fr), ((refl, fw), ((refl, fp), ((tt, (refl, tt)), tt))))))),
      )

module _ {M : Type 1} {𝓤 : Ura M} (𝓛 : Logic 𝓤) (R : RattleType) (ℓ : Lifetime) (κ : Lft) (q : Share) (b o : ℕ) (γ : GName) (front : List R.Denot) (y : R.Denot) (back : List R.Denot) where
  open 𝓛 use {H, A}

  abbrev pub here : ℕ
  here = at o (mem R).size (length front)

  abbrev pub next : ℕ
  next = here + (mem R).size

  abbrev all : List R.Denot
  all = front ++ y ∷ back

  abbrev pub joins : R.Denot → List R.Denot → List R.Denot
  joins w ws = front ++ w ∷ ws

  mend : (w : R.Denot) (ws : List R.Denot) → ent 𝓤 (sep 𝓤 (sem 𝓛 ((mem R).own_at w b here)) (sep 𝓤 (sem 𝓛 ((Arr (mem R) (length back)).own_at ws b next)) (sem 𝓛 (cells (mem R) front b o)))) (sem 𝓛 ((Arr (mem R) (length all)).own_at (joins w ws) b o))
  mend w ws = qed 𝓛 (‵ ((mem R).own_at w b here) ∷ ‵ ((Arr (mem R) (length back)).own_at ws b next) ∷ ‵ (cells (mem R) front b o) ∷ []) ∵
      move ! (1 ∷ []) $ fsplit ! $ feq_l ! (λ e. move ! (1 ∷ 0 ∷ []) $ fjoin ! $ move ! (1 ∷ 0 ∷ []) $
      use2 𝓛 (‵ (cells (mem R) (joins w ws) b o)) (join_app 𝓛 (mem R) front (w ∷ ws) b o) $
      feq_i ! ℕ (length (joins w ws)) (length all) (length_app front (w ∷ ws) ∙ ap (λ (k : ℕ). length front + suc k) e ∙ sym (length_app front (y ∷ back))) $ fjoin ! $ done !)

  abbrev pub Taken : GName × GName → SProp 𝓤
  Taken γs = sep 𝓤 (sem 𝓛 ((MutRef ℓ κ R).own_val (record { ref_ptr = (b, here); ghost_name = γs.0; now = y }) (vptr b here ∷ [])))
      (sep 𝓤 (sep 𝓤 (A.obs γs.1 ((coded_list R.coded).code back)) (A.bor κ (Body (Arr (mem R) (length back)) b next γs.1)))
      (sep 𝓤 (A.lft κ q) (sem 𝓛 (after₂ (Arr (mem R) 0) (mem R) (Arr (mem R) 0) γ γs.0 γs.1 joins))))

  pub takes : ent 𝓤 (sep 𝓤 (A.obs γ ((coded_list R.coded).code all)) (sep 𝓤 (A.bor κ (Body (Arr (mem R) (length all)) b o γ)) (A.lft κ q))) (H.⇛ (ex 𝓤 Taken))
  takes = qed 𝓛 (‵ (fobs γ ((coded_list R.coded).code all)) ∷ ‵ (fbor κ (Body (Arr (mem R) (length all)) b o γ)) ∷ ‵ (flft κ q) ∷ []) ∵ updating ! $
      open_ref ! tt (Arr (mem R) (length all)) {x = all} {b = b} {o = o} $ fsplit ! $ drop ! $
      use1 𝓛 (‵ (cells (mem R) front b o) ⊛ ‵ (cells (mem R) (y ∷ back) b here)) (cut_app 𝓛 (mem R) front (y ∷ back) b o) $ split ! $ move ! (1 ∷ []) $ fsplit ! $
      -- [the pixel; the cells after it; those before; the open borrow; obs; auth]
      move ! (1 ∷ []) $ feq_i ! ℕ (length back) (length back) refl $ fjoin ! $ move ! (3 ∷ 4 ∷ 5 ∷ 1 ∷ 0 ∷ 2 ∷ []) $ group ! 6 $
      use1 𝓛 (later (some (λ (γs : GName × GName). (‵ (fobs γs.0 (R.coded.code y)) ⊛ ‵ (fbor κ (Body (mem R) b here γs.0))) ⊛ (‵ (fobs γs.1 ((coded_list R.coded).code back)) ⊛ ‵ (fbor κ (Body (Arr (mem R) (length back)) b next γs.1)))
      ⊛ ‵ (flft κ q) ⊛ ‵ (after₂ (Arr (mem R) 0) (mem R) (Arr (mem R) 0) γ γs.0 γs.1 joins))))
      (takes_two 𝓛 (Arr (mem R) (length all)) (mem R) (Arr (mem R) (length back)) joins κ q b o b here b next γ (sem 𝓛 (cells (mem R) front b o)) mend ((coded_list R.coded).code all) ((coded_list R.coded).code all) y back) $ await ! tt $ pick ! (λ γs. split ! $
      split ! $ feq_i ! (List Val) (vptr b here ∷ []) (vptr b here ∷ []) refl $ fjoin3 ! $ now ! $ show ! Taken γs $ done !)

-- a name follows itself
module _ {M : Type 1} {𝓤 : Ura M} (𝓛 : Logic 𝓤) (R : RattleType) (γ : GName) where
  open 𝓛 use {A}

  pub follows_itself : ent 𝓤 (emp 𝓤) (sem 𝓛 (follows R R γ γ (λ w. w)))
  follows_itself =
      let From : R.Denot → R.Denot → Fml = λ z w. fsep (feq R.Denot z w) (fauth γ (R.coded.code w)) in
      let said = qed 𝓛 [] ∵ each ! (λ (w : R.Denot). wand 𝓤 (A.res γ (R.coded.code w)) (A.res γ (R.coded.code w))) (λ w. assume ! (‵ (fres γ (R.coded.code w))) $ done !) in
      let back = qed 𝓛 [] ∵ each ! (λ (z : R.Denot). wand 𝓤 (A.auth γ (R.coded.code z)) (sem 𝓛 (fex R.Denot (From z)))) (λ z. assume ! (‵ (fauth γ (R.coded.code z))) $ feq_i ! R.Denot z z refl $ fjoin ! $ fpack ! R.Denot (From z) z $ done !) in
      record { apply = λ a p. (said.apply a p, back.apply a p) }

-- the counts of a cursor that a `&` points to
module _ (a : NamedLft) (R : RattleType) {M : Type 1} {𝓤 : Ura M} (𝓛 : Logic 𝓤) (κ : Lft) where
  pub shown : (d : PixelsIterMut R.Denot) (b o : ℕ) → ent 𝓤 (sem 𝓛 (hidden_shr (P.the_row a R) κ d b o))
      (sep 𝓤 (sem 𝓛 (hidden_shr usize κ d.remaining b (o + 8))) (sep 𝓤 (sem 𝓛 (hidden_shr usize κ d.rows_left b (o + 16))) (sem 𝓛 (hidden_shr usize κ d.width b (o + 24)))))
  shown d b o = qed 𝓛 (‵ (hidden_shr (P.the_row a R) κ d b o) ∷ []) ∵
      use1 𝓛 (‵ (hidden_shr (Data a R) κ (to (P.the_type a R) d) b o) ⊛ ‵ (fhide (P.the_lent a.lft R d d.current κ))) (lent_out 𝓛 (P.struct a R) (P.the_codes R.Denot R.coded (marker.the_row (MutSlice a.mir a.lft R)).coded) (P.the_heap a.lft R) (P.the_lent a.lft R) κ d b o) $ split ! $
      unhide ! $ fsplit ! $ fsplit ! $ drop ! $ fsplit ! $ move ! (1 ∷ []) $ fsplit ! $ move ! (1 ∷ []) $ fsplit ! $ keep ! (3 ∷ 2 ∷ 0 ∷ []) $ done !
