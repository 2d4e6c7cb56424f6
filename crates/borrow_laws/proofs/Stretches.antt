-- A stretch of a lent slice is lent on, and the slice follows it.
use Rattle.std.proofs.Common.{◌≡◌, refl, sym, ap, ◌∙◌, ℕ, zero, suc, ◌+◌, ◌*◌, ◌^◌, ◌<◌, zero-mul, suc-mul, arith, List, [], ◌∷◌, ◌++◌, length, take, drop as drop_list, take-append-drop, length-append, drop-drop}
use Rattle.borrow_laws.proofs.Walking.{Ura, SProp, ent, sep, ex, coded_list, Lft, GName, Share, flft, fobs, fbor, Lifetime, Val, Logic, sem, cells, Arr, takes_part, open_ref, Item, ‵, ◌⊛◌, later, some, ◌$◌, ◌∵◌, !, qed, move, drop, split, split3, join, group, fsplit, fsplit3, fjoin, feq_i, feq_l, rewrite, updating, use1, use2, await, pick, now, show, done, Array, follows, heres_id, mem, RattleType, MutSlice, Room, slice_val, at, cut_app, join_app}
use prog.Memory.{capped}
use prog.Capped.{capped_is}
use types.SemTy.{Body as Borrowed}
use denote.FollowSlice.{slice_of}

-- where the product fits a word, the count is zero or the size fits too
pub uncapped : (i k : ℕ) → i * k < 2 ^ 64 → i * capped k ≡ i * k
uncapped zero k h = zero-mul (capped k) ∙ sym (zero-mul k)
uncapped (suc i) k h = let step = suc-mul i k in ap (λ (j : ℕ). suc i * j) (capped_is k (omega arith))

-- a list is its first i elements, the next n, and the rest
pub cut_at : {A : Type 0} (i n j : ℕ) (xs : List A) → i + n ≡ j → xs ≡ take i xs ++ (take n (drop_list i xs) ++ drop_list j xs)
cut_at {A} i n j xs e =
    sym (take-append-drop i xs)
    ∙ ap (λ (l : List A). take i xs ++ l) (sym (take-append-drop n (drop_list i xs)) ∙ ap (λ (l : List A). take n (drop_list i xs) ++ l) (drop-drop n i xs ∙ ap (λ (k : ℕ). drop_list k xs) e))

-- ---- the borrow: xs is front, mid and back, and mid is lent
module _ {M : Type 1} {𝓤 : Ura M} (𝓛 : Logic 𝓤) (ℓ : Lifetime) (κ : Lft) (q : Share) (b o : ℕ) (γ : GName) (R : RattleType)
    (xs front mid back : List R.Denot) (cut : xs ≡ front ++ (mid ++ back)) (p : ℕ) (on : at o (mem R).size (length front) ≡ p) (rm : Room R (length mid)) where
  open 𝓛 use {H, A}

  abbrev around : List R.Denot → List R.Denot
  around ws = front ++ (ws ++ back)

  abbrev pub part_lent : GName → Item 𝓤
  part_lent δ = ‵ ((MutSlice ℓ κ R).own_val (record { ref_ptr = (b, p); ghost_name = δ; now = mid }) (slice_val (b, p) (length mid) ∷ [])) ⊛ ‵ (flft κ q) ⊛ ‵ (follows (Array R 0) (Array R 0) γ δ around)

  abbrev pub PartLent : GName → SProp 𝓤
  PartLent δ = sep 𝓤 (sem 𝓛 ((MutSlice ℓ κ R).own_val (record { ref_ptr = (b, p); ghost_name = δ; now = mid }) (slice_val (b, p) (length mid) ∷ []))) (sep 𝓤 (A.lft κ q) (sem 𝓛 (follows (Array R 0) (Array R 0) γ δ around)))

  abbrev past : ℕ
  past = at p (mem R).size (length mid)

  abbrev Others : SProp 𝓤
  Others = sep 𝓤 (sem 𝓛 (cells (mem R) front b o)) (sem 𝓛 (cells (mem R) back b past))

  put_back : (ws : List R.Denot) → ent 𝓤 (sep 𝓤 (sem 𝓛 ((Arr (mem R) (length mid)).own_at ws b p)) Others) (sem 𝓛 ((Arr (mem R) (length xs)).own_at (around ws) b o))
  put_back ws = qed 𝓛 (‵ ((Arr (mem R) (length mid)).own_at ws b p) ∷ ‵ (cells (mem R) front b o) ∷ ‵ (cells (mem R) back b past) ∷ []) ∵
      fsplit ! $ feq_l ! (λ e.
      let all : length xs ≡ length front + length (mid ++ back) = ap length cut ∙ length-append front (mid ++ back) in
      let inner : length (mid ++ back) ≡ length mid + length back = length-append mid back in
      let now_all : length (around ws) ≡ length front + length (ws ++ back) = length-append front (ws ++ back) in
      let now_inner : length (ws ++ back) ≡ length ws + length back = length-append ws back in
      rewrite ! 2 (λ (k : ℕ). ‵ (cells (mem R) back b (at p (mem R).size k))) (sym e) refl $ move ! (0 ∷ 2 ∷ []) $
      use2 𝓛 (‵ (cells (mem R) (ws ++ back) b p)) (join_app 𝓛 (mem R) ws back b p) $
      rewrite ! 0 (λ (k : ℕ). ‵ (cells (mem R) (ws ++ back) b k)) (sym on) refl $ move ! (1 ∷ 0 ∷ []) $
      use2 𝓛 (‵ (cells (mem R) (around ws) b o)) (join_app 𝓛 (mem R) front (ws ++ back) b o) $
      feq_i ! ℕ (length (around ws)) (length xs) (omega arith) $ fjoin ! $ done !)

  pub lends_part : (vs : List Val)
      → ent 𝓤 (sep 𝓤 (sem 𝓛 ((MutSlice ℓ κ R).own_val (record { ref_ptr = (b, o); ghost_name = γ; now = xs }) vs)) (A.lft κ q)) (H.⇛ (ex 𝓤 PartLent))
  lends_part vs = qed 𝓛 (‵ ((MutSlice ℓ κ R).own_val (record { ref_ptr = (b, o); ghost_name = γ; now = xs }) vs) ∷ ‵ (flft κ q) ∷ []) ∵ updating ! $ fsplit3 ! $ drop ! $
      rewrite ! 0 (λ (l : List R.Denot). ‵ (fobs γ ((coded_list R.coded).code l))) (heres_id R xs) refl $ open_ref ! tt (Arr (mem R) (length xs)) {b = b} {o = o} $ fsplit ! $ drop ! $
      rewrite ! 0 (λ (l : List R.Denot). ‵ (cells (mem R) l b o)) cut refl $
      use1 𝓛 (‵ (cells (mem R) front b o) ⊛ ‵ (cells (mem R) (mid ++ back) b (at o (mem R).size (length front)))) (cut_app 𝓛 (mem R) front (mid ++ back) b o) $ split ! $ move ! (1 ∷ []) $
      rewrite ! 0 (λ (k : ℕ). ‵ (cells (mem R) (mid ++ back) b k)) on refl $
      use1 𝓛 (‵ (cells (mem R) mid b p) ⊛ ‵ (cells (mem R) back b past)) (cut_app 𝓛 (mem R) mid back b p) $ split ! $
      feq_i ! ℕ (length mid) (length mid) refl $ fjoin ! $ move ! (2 ∷ 1 ∷ []) $ join ! $ move ! (2 ∷ 3 ∷ 4 ∷ 1 ∷ 0 ∷ []) $ group ! 5 $
      use1 𝓛 (later (some (λ (δ : GName). ‵ (fobs δ ((coded_list R.coded).code mid)) ⊛ ‵ (fbor κ (Borrowed (Arr (mem R) (length mid)) b p δ)) ⊛ ‵ (flft κ q) ⊛ ‵ (follows (Array R 0) (Array R 0) γ δ around))))
      (takes_part 𝓛 (Arr (mem R) (length xs)) (Arr (mem R) (length mid)) around κ q b o b p γ Others put_back ((coded_list R.coded).code xs) ((coded_list R.coded).code xs) mid) $ await ! tt $ pick ! (λ δ. split3 ! $
      use2 𝓛 (‵ ((MutSlice ℓ κ R).own_val (record { ref_ptr = (b, p); ghost_name = δ; now = mid }) (slice_val (b, p) (length mid) ∷ []))) (slice_of 𝓛 R ℓ κ b p δ mid rm) $ now ! $ show ! PartLent δ $ done !)
