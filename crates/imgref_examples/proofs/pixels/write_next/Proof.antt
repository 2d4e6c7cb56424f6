-- `write_next` writes over one pixel after the other: a loop whose invariant is how the first name follows the cursor's. Assumes `Logic`.
use mathlib.Core.WellFounded.InvImage
use lib.WfN.{lt-wf_rel}
use mir.Syntax.{Body, place, rv_opd, copy, variant, field, deref}
use base.Share
use prog.Wp.{Out, after_turn, after_block}
use types.SemTy.{Body as BorBody}
use types.Kit.{lands}
use types.Run.{jumps, loops, again, Below}
use sound.WpLaws.{fm_of}
use denote.Param.Laws.{IsCopy}
use denote.Triple.Statement.{Triple}
use Rattle.std.proofs.Common.{◌≡◌, refl, sym, ap, ◌∙◌, ℕ, suc, ◌-◌, ◌<◌, ◌^◌, arith, Bool, List, [], ◌∷◌, ◌++◌, append_assoc, length, T, lit<, ltb→lt, nltb→le, w64, MutBor, Option, Some, None}
use Rattle.std.proofs.alloc.Shapes.{after}
use Rattle.std.specs.Iterator.{MakesProgress, item_count, YieldsFirstMut}
use Rattle.std.specs.contracts.option.Option as OP
use Rattle.std.specs.declared.clone.Clone.{Ghosts}
use Rattle.borrow_laws.proofs.Walking.{Ura, Fn, Dict, Args, named, a_type, dcons, dnil, seq, assign, block, loop, cond, switch, exit, return, call, call_v, unreachable, lend_static, skip, inst_fn, Val, vptr, vint, vunit, of_list, has_ty, WT, SProp, ent, sep, emp, ex, apply∗, id⊢, guard, full_share, Lft, GName, Share, Fml, ftrue, fsep, feq, fdead, fres, fbor, fobor, fobs, fauth, flft, Memory, Routine, Env, WpFn, Tables, Wp, after_seq, at_return, Logic, sem, live, vrt, in_variant, whole, Item, Sq, ‵, raw, ◌⊛◌, some, given, later, at_ret, runs, any_q, ◌$◌, ◌∵◌, !, qed, by, move, keep, drop, use0, use1, use2, use3, split, split3, join, fsplit, fsplit3, fjoin, fpack, feq_i, feq_l, pick, await, updating, rewrite, group, learn, show, check, done, at_once, enter, of_opd, bin, lit, unit_lit, addr, stop, fld, no_more, and_then, assigns_last, store_raw, first, blocks, branches, skips, exec, returns, switches_on, alloc_all, pass_all, free_all, look_at, get, get_in, get_tag, through, sets, env, forget_but, holding, lands_as, Fun, fact, fact_i, ◌⊑◌, ⊑_trans, meet_⊑_right, Lfts, AllOutlive, tables, tables_of, RattleType, no, yes, usize, uint_vals, uint_Tells, Array, follows_both, Is, shows, LentAgain, lends_again, comes_back, mem, cell_at, copied, layout, layouts, bounded, Laws, copied_laws, copied_copy, MutRef, mut_vals, mut_Tells, plain, named_lft, nothing, opens, closes, facts, heard, only, calls_at, Clauses, Ended, on_entry, triple_of, Contract, Stays, walk_of, stay_ref, stay_dropped, Goes-ref, Goes-dropped, proved, leaves}
use Rattle.borrow_laws.specs.Endings.{ends_as}
use Rattle.borrow_laws.proofs.Endings.{ends_beside, ends_then, ends_itself}
use Rattle.borrow_laws.proofs.Lifetimes.{Ends, begins}
use Rattle.borrow_laws.proofs.Options.{some_out, none_out}
use Rattle.image_pixels.specs.Pixels.{muts_left, cells_left, marks_left, gap, passed, hands_on, Moves}
use Rattle.image_pixels.specs.contracts.pixels_mut.PixelsIterMut as P
use Rattle.image_pixels.specs.declared.pixels_mut.PixelsIterMut.{PixelsIterMut}
use Rattle.image_pixels.specs.contracts.pixels_mut.PixelsIterMut.next as N
use Rattle.image_pixels.specs.contracts.pixels_mut.PixelsIterMut.next.Key.{name as #next}
use Rattle.image_pixels.proofs.pixels_mut.PixelsIterMut.next.Met as next
use Rattle.imgref_examples.specs.Pixels.{first_covered}
use Rattle.imgref_examples.proofs.FirstPixels.{covered_past, covered_none}
use Rattle.imgref_examples.specs.contracts.pixels.write_next as F
use Rattle.imgref_examples.specs.contracts.pixels.write_next.Key.{name as #self}
use Rattle.imgref_examples.proofs.pixels.write_next.Statement.{statement}
use Rattle.imgref_examples.proofs.pixels.write_next.Code as code

record El : Type 2 where
  X : RattleType
  LX : Laws X
  CX : IsCopy X
  g : Ghosts X.Denot
  d : Dict

-- the body of the first loop
abbrev loop_in : Body → Body
loop_in skip = skip
loop_in (seq a b) = loop_in a
loop_in (assign x₀ x₁) = skip
loop_in (block a) = loop_in a
loop_in (loop a) = a
loop_in (cond x₀ x₁ x₂) = skip
loop_in (switch x₀ x₁) = skip
loop_in (exit x₀) = skip
loop_in return = skip
loop_in (call x₀ x₁ x₂) = skip
loop_in (call_v x₀ x₁ x₂ x₃) = skip
loop_in unreachable = skip
loop_in (lend_static x₀ x₁ x₂) = skip

module _ (E : El) where
  abbrev args : Args
  args = bounded (a_type ∷ []) (E.X, tt) (dcons E.d dnil)

  abbrev fn' : Fn
  fn' = inst_fn args code.function

  abbrev Y : RattleType
  Y = copied 0 E.X

  abbrev A₀ : RattleType
  A₀ = Array Y 0

  abbrev D : Type 0
  D = E.X.Denot

  abbrev Sort : Type 0
  Sort = PixelsIterMut D

  abbrev ended : Ended
  ended = F.ended E.X E.g E.d

  abbrev clauses : {M : Type 1} {𝓤 : Ura M} (𝓛 : Logic 𝓤) → (Memory → SProp 𝓤) → (Routine → Fun 𝓤) → Clauses 𝓤 ended
  clauses 𝓛 = F.clauses E.X E.g E.d 𝓛

  abbrev Cursor : Lfts 3 → RattleType
  Cursor κs = P.the_row (named_lft 3 1 tt κs) Y

  abbrev stayed : Stays ended.signature.params ended.kept
  stayed = (stay_ref (0 ∷ []) tt (plain Cursor), (stay_dropped (plain (λ _. usize)) yes, (stay_dropped (plain (λ _. Y)) no, tt)))

  abbrev w : D → Val
  w x = (copied_copy 0 E.X E.CX).val x

  abbrev some_arm : Body
  some_arm = seq (assign (place 5 []) (rv_opd (copy (place 7 (variant 1 ∷ field 1 ∷ []))))) (assign (place 5 (deref (layout E.X) ∷ [])) (rv_opd (copy (place 3 []))))

  -- the cells that s still has, with one value in the first pixels
  abbrev cov : ℕ → D → Sort → List D
  cov n v s = first_covered n (marks_left s) v (cells_left s)

  abbrev Told : Sort → Option (MutBor D) → Sort → Type 0
  Told s m t = YieldsFirstMut muts_left s m t × MakesProgress (λ _. Unit {0}) (item_count muts_left) s m t × Moves s m t

module _ (E : El) {M : Type 1} {𝓤 : Ura M} (𝓛 : Logic 𝓤) (at_mem : Memory → SProp 𝓤) (run : Routine → Fun 𝓤) where
  open 𝓛 use {H, A}

  abbrev Next : Contract 𝓤
  Next = triple_of 𝓛 (N.signature E.X) (N.spec E.X 𝓛 at_mem run)

  -- the pixel that was written is closed, and its name is done
  shut : (κ₁ : Lft) (q₁ : Share) (pb po : ℕ) (ν γ₀ γs γt : GName) (old v : D E) (u : Val) (don front : List (D E)) (G : List (D E) → List (D E)) → (λ ws. don ++ (front ++ v ∷ ws)) ≡ G
      → ent 𝓤 (sep 𝓤 (sem 𝓛 (cell_at full_share (Y E).mir (u ∷ []) pb po)) (sep 𝓤 (sem 𝓛 ((Y E).own_val v (u ∷ []))) (sep 𝓤 (A.obor κ₁ q₁ (BorBody (mem (Y E)) pb po ν)) (sep 𝓤 (A.obs ν ((Y E).coded.code old)) (sep 𝓤 (A.auth ν ((Y E).coded.code old))
      (sep 𝓤 (sem 𝓛 (follows_both (A₀ E) (Y E) (A₀ E) γs ν γt (λ z ws. front ++ z ∷ ws))) (sem 𝓛 (ends_as (A₀ E) (A₀ E) γ₀ γs (λ ws. don ++ ws)))))))))
      (H.⇛ (sep 𝓤 (A.lft κ₁ q₁) (sem 𝓛 (ends_as (A₀ E) (A₀ E) γ₀ γt G))))
  shut κ₁ q₁ pb po ν γ₀ γs γt old v u don front G same =
      qed 𝓛 (‵ (cell_at full_share (Y E).mir (u ∷ []) pb po) ∷ ‵ ((Y E).own_val v (u ∷ [])) ∷ ‵ (fobor κ₁ q₁ (BorBody (mem (Y E)) pb po ν)) ∷ ‵ (fobs ν ((Y E).coded.code old)) ∷ ‵ (fauth ν ((Y E).coded.code old))
      ∷ ‵ (follows_both (A₀ E) (Y E) (A₀ E) γs ν γt (λ z ws. front ++ z ∷ ws)) ∷ ‵ (ends_as (A₀ E) (A₀ E) γ₀ γs (λ ws. don ++ ws)) ∷ []) ∵ updating ! $
      closes ! tt (Y E) v (u ∷ []) pb po $ use1 𝓛 (‵ (fres ν ((Y E).coded.code v))) (𝓛.names.obs-res ν ((Y E).coded.code v)) $
      -- [the last value; its borrow; the token; what is handed on; what was]
      move ! (0 ∷ 3 ∷ []) $ use2 𝓛 (‵ (ends_as (A₀ E) (A₀ E) γs γt (λ ws. front ++ v ∷ ws))) (ends_beside 𝓛 (A₀ E) (Y E) (A₀ E) γs ν γt (λ z ws. front ++ z ∷ ws) v) $
      move ! (3 ∷ 0 ∷ []) $ use2 𝓛 (‵ (ends_as (A₀ E) (A₀ E) γ₀ γt (λ ws. don ++ (front ++ v ∷ ws)))) (ends_then 𝓛 (A₀ E) (A₀ E) (A₀ E) γ₀ γs γt (λ ws. don ++ ws) (λ ws. front ++ v ∷ ws)) $
      rewrite ! 0 (λ (K : List (D E) → List (D E)). ‵ (ends_as (A₀ E) (A₀ E) γ₀ γt K)) same refl $ at_once ! $ keep ! (2 ∷ 0 ∷ []) $ done !

  module _ (κ κ₁ κ₂ : Lft) (rb ro : ℕ) where
    abbrev It : RattleType
    It = Cursor E (κ, (κ₁, (κ₂, tt)))

    abbrev Pixel : RattleType
    Pixel = MutRef (named 1) κ₁ (Y E)

    abbrev lent : Lft → GName → Sort E → Fml
    lent κ' δ s = (MutRef (named 0) κ' It).own_val (record { ref_ptr = (rb, ro); ghost_name = δ; now = s }) (vptr rb ro ∷ [])

    module _ (κ' : Lft) (below : κ' ⊑ κ₁) (above : κ₁ ⊑ κ₂) (p q₁ q₂ : Share) (δ : GName) (s : Sort E) where
      abbrev at_next : Next.Ghost
      at_next = (((κ', (κ₁, (κ₂, tt))), (p, (q₁, (q₂, tt))), (below, (⊑_trans κ' κ₁ κ₂ below above, (above, tt))), (record { ref_ptr = (rb, ro); ghost_name = δ; now = s }, tt), (vptr rb ro ∷ [], tt)), tt)

      next_goes : κ₂ ⊑ E.X.lives → ent 𝓤 (sep 𝓤 (A.lft κ' p) (sep 𝓤 (sem 𝓛 (lent κ' δ s)) (sep 𝓤 (A.lft κ₁ q₁) (A.lft κ₂ q₂)))) (Next.pre at_next)
      next_goes inT =
          qed 𝓛 (‵ (flft κ' p) ∷ ‵ (lent κ' δ s) ∷ ‵ (flft κ₁ q₁) ∷ ‵ (flft κ₂ q₂) ∷ []) ∵
          use0 𝓛 (raw (emp 𝓤)) (id⊢ 𝓤 (emp 𝓤)) $ use0 𝓛 (raw (fact 𝓤 (κ₂ ⊑ E.X.lives))) (fact_i 𝓤 (κ₂ ⊑ E.X.lives) (emp 𝓤) inT) $ join ! $
          nothing ! $ move ! (3 ∷ 0 ∷ []) $ fjoin ! $ nothing ! $ move ! (5 ∷ 0 ∷ []) $ join ! $ move ! (4 ∷ 0 ∷ []) $ join ! $ move ! (3 ∷ 0 ∷ []) $ join ! $ join ! $ join ! $ done !

      abbrev Gave : Val → Option (MutBor (D E)) × Sort E → SProp 𝓤
      Gave v r = guard 𝓤 (Told E s r.0 r.1) (sep 𝓤 (sem 𝓛 ((OP.the_row Pixel).own_val r.0 (v ∷ []))) (sep 𝓤 (sem 𝓛 (hands_on (Y E) s r.0 r.1)) (sep 𝓤 (A.lft κ' p) (sep 𝓤 (A.res δ (It.coded.code r.1)) (sep 𝓤 (A.lft κ₁ q₁) (A.lft κ₂ q₂))))))

      next_gives : (v : Val) → ent 𝓤 (Next.post at_next v) (H.⇛ (ex 𝓤 (Gave v)))
      next_gives v =
          qed 𝓛 (raw (Next.post at_next v) ∷ []) ∵ updating ! $
          use1 𝓛 (later (some (λ (r : Option (MutBor (D E))). ((‵ (flft κ' p) ⊛ ‵ (flft κ₁ q₁) ⊛ ‵ (flft κ₂ q₂) ⊛ ‵ ftrue) ⊛ ‵ ((OP.the_row Pixel).own_val r (v ∷ [])))
          ⊛ some (λ (ws : Sort E × Unit {0}). ‵ (fsep (fsep (fres δ (It.coded.code ws.0)) (fbor κ' (BorBody (mem It) rb ro δ))) ftrue)
          ⊛ (raw (fact 𝓤 (YieldsFirstMut muts_left s r ws.0)) ⊛ (raw (fact 𝓤 (MakesProgress (λ _. Unit {0}) (item_count muts_left) s r ws.0)) ⊛ (raw (fact 𝓤 (Moves s r ws.0)) ⊛ ‵ (hands_on (Y E) s r ws.0)))))))) (id⊢ 𝓤 _) $ await ! tt $ pick ! (λ r.
          split ! $ move ! (1 ∷ []) $ pick ! (λ ws. split ! $ fsplit ! $ fsplit ! $ move ! (3 ∷ []) $
          split ! $ heard ! (YieldsFirstMut muts_left s r ws.0) (λ steps. split ! $ heard ! (MakesProgress (λ _. Unit {0}) (item_count muts_left) s r ws.0) (λ goes. split ! $ heard ! (Moves s r ws.0) (λ moved.
          move ! (4 ∷ []) $ split ! $ split3 ! $ move ! (2 ∷ []) $ split ! $
          at_once ! $ show ! (Gave v) (r, ws.0) $ check ! (steps, goes, moved) $ keep ! (4 ∷ 5 ∷ 2 ∷ 6 ∷ 3 ∷ 0 ∷ []) $ done !)))))

    module _ (𝓣 : Tables 𝓤 H) (met : Triple 𝓤 (𝓣.C (#next (layouts (a_type ∷ []) (E.X, tt)))) Next) (q q₁ q₂ : Share) (bd : AllOutlive 3 (ended E).signature.outlives (κ, (κ₁, (κ₂, tt))))
        (inT : κ₂ ⊑ E.X.lives) (γ : GName) (h : Sort E) (count : ℕ) (low : count < 2 ^ 64) (value : D E) (good : T (has_ty (layout E.X) (w E value)) × WT (w E value)) where
      abbrev v : Val
      v = w E value

      abbrev bound : (walk_of 𝓛 (ended E) (stayed E) (clauses E 𝓛 at_mem run)).Ghost
      bound = (((κ, (κ₁, (κ₂, tt))), (q, (q₁, (q₂, tt))), bd, (record { ref_ptr = (rb, ro); ghost_name = γ; now = h }, (count, (value, tt))), (vptr rb ro ∷ [], (vint w64 count ∷ [], (v ∷ [], tt)))), tt)

      abbrev Post : Val → SProp 𝓤
      Post = (walk_of 𝓛 (ended E) (stayed E) (clauses E 𝓛 at_mem run)).post bound

      abbrev turn : Body
      turn = loop_in (after 1 (fn' E).body)

      abbrev rest : Body
      rest = after 2 (fn' E).body

      -- the cursor, the cells that it has passed, as they are now, and how many pixels are to come
      abbrev State : Type 0
      State = (s : Sort E) × (don : List (D E)) × (n : ℕ) × (n < 2 ^ 64) × (don ++ cov E n value s ≡ cov E count value h)

      abbrev Nearer : State → State → Type 0
      Nearer t u = t.2 < u.2

      module _ (l : ℕ → ℕ) where
        abbrev En : Env 𝓤 H
        En = env (fn' E).locals l

        abbrev Locals : ℕ → List (Item 𝓤)
        Locals n = holding 𝓛 En ((1, vptr rb ro) ∷ (3, v) ∷ (4, vint w64 n) ∷ [])

        abbrev Now : State → List (Item 𝓤)
        Now t = later (‵ (flft κ₁ q₁) ⊛ ‵ (ends_as (A₀ E) (A₀ E) h.name t.0.name (λ ws. t.1 ++ ws))) ∷ ‵ (lent κ γ t.0) ∷ ‵ (flft κ q) ∷ ‵ (flft κ₂ q₂) ∷ ‵ ((Y E).own_val value (v ∷ [])) ∷ Locals t.2

        abbrev Turned : State → Out → SProp 𝓤
        Turned t = after_turn 𝓤 H (Below 𝓛 Nearer Now t) (after_block 𝓤 H (after_seq 𝓤 H (Wp 𝓤 H 𝓣.C 𝓣.Λ En rest (at_return 𝓤 H En Post)) (at_return 𝓤 H En Post)))

        abbrev match_on : Body → Body
        match_on b = after 5 b

        then_goes : (s : Sort E) (don : List (D E)) (n : ℕ) (fits : n < 2 ^ 64) (e : don ++ cov E n value s ≡ cov E count value h) (has : 0 < n) (m : Option (MutBor (D E))) (t : Sort E) → Told E s m t → (u : Val)
            → Sq 𝓛 (‵ (flft κ₁ q₁) ∷ ‵ (lent κ γ t) ∷ ‵ (flft κ q) ∷ ‵ (flft κ₂ q₂) ∷ ‵ ((OP.the_row Pixel).own_val m (u ∷ [])) ∷ ‵ (hands_on (Y E) s m t) ∷ ‵ ((Y E).own_val value (v ∷ []))
            ∷ ‵ (ends_as (A₀ E) (A₀ E) h.name s.name (λ ws. don ++ ws)) ∷ Locals (n - 1)) (lands 𝓣.C 𝓣.Λ En (place 7 []) u (match_on turn) (any_q (Turned (s, don, n, fits, e))))
        unfolding muts_left after_turn
        then_goes s don n fits e has None t told u =
            let none : length (muts_left t) ≡ 0 = ap length told.0.1 in
            let as_is : (k : ℕ) → cov E k value t ≡ cells_left t = λ k. covered_none value k (marks_left t) (cells_left t) none in
            let all : don ++ cov E (n - 1) value t ≡ cov E count value h = ap (λ zs. don ++ zs) (as_is (n - 1) ∙ sym (as_is n) ∙ ap (cov E n value) told.2) ∙ e in
            move ! (4 ∷ []) $ use1 𝓛 (‵ (feq (List Val) (u ∷ []) (live 0 (of_list []) ∷ []))) (none_out 𝓛 Pixel u) $ feq_l ! (λ is.
            lands_as ! (ap only is) refl (tt, (record { fits = lit< tt }, tt)) $
            switches_on ! (get_tag ! (vrt ! refl (fld ! refl (stop !))) (whole !)) $ exec ! 𝓣.C 𝓣.Λ En skip (any_q (Turned (s, don, n, fits, e))) $ skips ! $
            -- [the token of 'a; the cursor; its token; T's; nothing; the value; how the cells end]
            forget_but ! En (1 ∷ 3 ∷ 4 ∷ []) refl $
            move ! (6 ∷ []) $ rewrite ! 0 (λ (z : Sort E). ‵ (ends_as (A₀ E) (A₀ E) h.name z.name (λ ws. don ++ ws))) (sym told.2) refl $ move ! (1 ∷ 0 ∷ []) $ join ! $
            use1 𝓛 (later (‵ (flft κ₁ q₁) ⊛ ‵ (ends_as (A₀ E) (A₀ E) h.name t.name (λ ws. don ++ ws)))) (𝓛.laws.⇛_intro _) $
            -- [the tokens and how the cells end; the cursor; its token; T's; nothing; the value]
            move ! (4 ∷ []) $ drop ! $
            again ! Nearer Now (s, don, n, fits, e) (t, don, n - 1, omega (arith, fits), all) (omega (arith, has)))
        then_goes s don n fits e has (Some x) t told u =
            let pb : ℕ = x.ref_ptr.0 in let po : ℕ = x.ref_ptr.1 in let ν : GName = x.ghost_name in let laws : IsCopy (Y E) = copied_copy 0 E.X E.CX in
            let front : List (D E) = passed s in let don' : List (D E) = don ++ (front ++ value ∷ []) in
            let joined : (ws : List (D E)) → don' ++ ws ≡ don ++ (front ++ value ∷ ws) = λ ws. append_assoc don (front ++ value ∷ []) ws ∙ ap (λ zs. don ++ zs) (append_assoc front (value ∷ []) ws) in
            let later_marks : List Bool = marks_left t in let one_more : n ≡ suc (n - 1) = omega (arith, has) in
            let written : cov E n value s ≡ front ++ value ∷ cov E (n - 1) value t =
            ap (λ k. cov E k value s) one_more ∙ ap (λ zs. first_covered (suc (n - 1)) (marks_left s) value zs) told.2.0 ∙ ap (λ ms. first_covered (suc (n - 1)) ms value (front ++ x.now ∷ t.cells)) told.2.2
            ∙ covered_past value (n - 1) (gap s) later_marks front x.now t.cells told.2.1 in
            move ! (4 ∷ []) $ use1 𝓛 (‵ (feq (List Val) (u ∷ []) (live 1 (of_list (vptr pb po ∷ [])) ∷ [])) ⊛ ‵ (Pixel.own_val x (vptr pb po ∷ []))) (some_out 𝓛 (named 1) κ₁ (Y E) x u) $ split ! $ feq_l ! (λ is.
            lands_as ! (ap only is) refl (tt, (record { fits = lit< tt }, (tt, tt))) $
            switches_on ! (get_tag ! (vrt ! refl (fld ! refl (stop !))) (whole !)) $ exec ! 𝓣.C 𝓣.Λ En (some_arm E) (any_q (Turned (s, don, n, fits, e))) $
            sets ! (of_opd ! (get_in ! (vrt ! refl (fld ! refl (stop !))) (in_variant ! 1 0 refl refl (whole !)))) refl (tt, tt) $
            -- [the pixel; the token of 'a; the cursor; its token; T's; what is handed on; the value; how the cells end]
            fsplit3 ! $ drop ! $ opens ! tt (Y E) pb po (λ us. move ! (1 ∷ []) $ facts ! (Y E) (Is (Y E)) (shows 𝓛 (Y E)) x.now us (λ is'.
            rewrite ! 0 (λ (ws : List Val). ‵ (cell_at full_share (Y E).mir ws pb po)) (laws.tells x.now us is') refl $
            assigns_last ! (of_opd ! (get ! refl)) (through ! refl (stop !)) (store_raw ! 0 refl good) $
            -- [the cell; the open borrow; obs; auth; the cursor; its token; T's; what is handed on; the value; how the cells end]
            move ! (8 ∷ []) $ use1 𝓛 (‵ ((Y E).own_val value (v ∷ [])) ⊛ ‵ ((Y E).own_val value (v ∷ []))) ((laws.copies M 𝓤 𝓛).twice value (v ∷ [])) $ split ! $
            move ! (2 ∷ 0 ∷ 3 ∷ 4 ∷ 5 ∷ 9 ∷ 10 ∷ []) $ group ! 7 $
            use1 𝓛 (later (‵ (flft κ₁ q₁) ⊛ ‵ (ends_as (A₀ E) (A₀ E) h.name t.name (λ ws. don' ++ ws))))
            (shut κ₁ q₁ pb po ν h.name s.name t.name x.now value v don front (λ ws. don' ++ ws) (λ i ws. sym (joined ws) i)) $
            -- [the tokens and how the cells end; the value; the cursor; its token; T's]
            forget_but ! En (1 ∷ 3 ∷ 4 ∷ []) refl $ move ! (0 ∷ 2 ∷ 3 ∷ 4 ∷ 1 ∷ []) $
            again ! Nearer Now (s, don, n, fits, e) (t, don', n - 1, omega (arith, fits), joined (cov E (n - 1) value t) ∙ ap (λ zs. don ++ zs) (sym written) ∙ e) (omega (arith, has)))))

        turns : (s : Sort E) (don : List (D E)) (n : ℕ) (fits : n < 2 ^ 64) (e : don ++ cov E n value s ≡ cov E count value h) → Sq 𝓛 (Now (s, don, n, fits, e)) (runs 𝓣.C 𝓣.Λ En turn (any_q (Turned (s, don, n, fits, e))))
        unfolding after_turn
        turns s don n fits e =
            await ! tt $ split ! $ sets ! (bin ! (lit ! tt) (get ! refl) tt) refl (tt, tt) $
            first ! $ branches ! (get ! refl)
            (λ more. let has : 0 < n = ltb→lt 0 n more in skips ! $ exec ! 𝓣.C 𝓣.Λ En (after 2 turn) (any_q (Turned (s, don, n, fits, e))) $
            sets ! (bin ! (get ! refl) (lit ! tt) has) refl (tt, record { fits = omega (arith, fits) }) $ sets ! (addr ! (through ! refl (stop !))) refl (tt, tt) $
            use1 𝓛 (‵ (flft κ₁ (Share.left q₁)) ⊛ ‵ (flft κ₁ (Share.right q₁))) (𝓛.lfts.lft_split κ₁ q₁) $ split ! $
            -- [two tokens of 'a; how the cells end; the cursor; its token; T's; the value]
            use1 𝓛 (later (some (λ (p : ℕ × Share). ‵ (flft (p.0 ∷ κ₁) p.1) ⊛ raw (Ends 𝓛 κ₁ (Share.left q₁) p.0 p.1)))) (begins 𝓛 κ₁ (Share.left q₁)) $ await ! tt $ pick ! (λ p. split ! $
            let κ' : Lft = p.0 ∷ κ₁ in let below : κ' ⊑ κ₁ = meet_⊑_right (p.0 ∷ []) κ₁ in
            -- [κ'; its end; 'a; how the cells end; the cursor; its token; T's; the value]
            move ! (4 ∷ 5 ∷ []) $ use2 𝓛 (later (some (λ (δ : GName). ‵ (lent κ' δ s) ⊛ ‵ (LentAgain It κ κ' q γ rb ro δ s)))) (lends_again 𝓛 It (named 0) κ κ' q γ rb ro (named 0) s) $ await ! tt $ pick ! (λ δ. split ! $
            -- [the borrow; what is kept; κ'; its end; 'a; how the cells end; T's token; the value]
            move ! (2 ∷ 0 ∷ 4 ∷ 6 ∷ []) $ group ! 4 $ use1 𝓛 (raw (Next.pre (at_next κ' below bd.1.1.0 p.1 (Share.right q₁) q₂ δ s))) (next_goes κ' below bd.1.1.0 p.1 (Share.right q₁) q₂ δ s inT) $
            calls_at ! (fm_of 𝓤 H 𝓛.laws 𝓣) Next met (at_next κ' below bd.1.1.0 p.1 (Share.right q₁) q₂ δ s) (and_then ! (get ! refl) (no_more !)) (λ u.
            use1 𝓛 (later (some (λ (r : Option (MutBor (D E)) × Sort E). given (Told E s r.0 r.1) (‵ ((OP.the_row Pixel).own_val r.0 (u ∷ [])) ⊛ ‵ (hands_on (Y E) s r.0 r.1) ⊛ ‵ (flft κ' p.1) ⊛ ‵ (fres δ (It.coded.code r.1)) ⊛ ‵ (flft κ₁ (Share.right q₁)) ⊛ ‵ (flft κ₂ q₂)))))
            (next_gives κ' below bd.1.1.0 p.1 (Share.right q₁) q₂ δ s u) $ await ! tt $ pick ! (λ r. learn ! (λ told. split3 ! $ move ! (2 ∷ []) $ split3 ! $ move ! (2 ∷ []) $ split ! $
            -- ['a; T's; κ'; the last cursor; the item; what is handed on; what is kept; the end of κ'; how the cells end; the value]
            move ! (2 ∷ 7 ∷ []) $ use2 𝓛 (later (‵ (fdead κ') ⊛ ‵ (flft κ₁ (Share.left q₁)))) (apply∗ 𝓤 (A.lft κ' p.1) _) $ await ! tt $ split ! $
            -- [over; 'a; 'a; T's; the last cursor; the item; what is handed on; what is kept; how the cells end; the value]
            move ! (0 ∷ 7 ∷ 4 ∷ []) $ use3 𝓛 (later (‵ (lent κ γ r.1) ⊛ ‵ (flft κ q))) (comes_back 𝓛 It (named 0) κ κ' q γ rb ro δ s r.1) $ await ! tt $ split ! $
            -- [the cursor; its token; 'a; 'a; T's; the item; what is handed on; how the cells end; the value]
            move ! (2 ∷ 3 ∷ []) $ use2 𝓛 (‵ (flft κ₁ q₁)) (𝓛.lfts.lft_join κ₁ q₁) $ forget_but ! En (1 ∷ 3 ∷ 4 ∷ []) refl $
            move ! (0 ∷ 1 ∷ 2 ∷ 3 ∷ 4 ∷ 5 ∷ 7 ∷ 6 ∷ []) $ then_goes s don n fits e has r.0 r.1 told u))))))
            (λ over. let none : n ≡ 0 = omega (arith, nltb→le 0 n over) in
            let all : don ++ cells_left s ≡ cov E count value h = ap (λ k. don ++ cov E k value s) (sym none) ∙ e in
            jumps ! $ exec ! 𝓣.C 𝓣.Λ En rest (at_ret En Post) $ sets ! (of_opd ! (unit_lit !)) refl (tt, tt) $ returns ! (look_at ! 0 refl) $ free_all ! refl $
            -- [the token of 'a; how the cells end; the cursor; its token; T's; the value]
            move ! (1 ∷ []) $ feq_i ! (List (D E)) (don ++ cells_left s) (cov E count value h) all $ fjoin ! $
            fpack ! (List (D E)) (λ (zs : List (D E)). fsep (feq (List (D E)) (zs ++ cells_left s) (cov E count value h)) (ends_as (A₀ E) (A₀ E) h.name s.name (λ ws. zs ++ ws))) don $
            -- [the ensures; the token of 'a; the cursor; its token; T's; the value]
            feq_i ! (List Val) (vunit ∷ []) (vunit ∷ []) refl $
            nothing ! $ nothing ! $ fjoin ! $ nothing ! $ fjoin ! $ move ! (4 ∷ 0 ∷ []) $ fjoin ! $
            -- [the cursor; (); the ensures; the token of 'a; its token; T's; the value]
            nothing ! $ move ! (6 ∷ 0 ∷ []) $ join ! $ move ! (4 ∷ 0 ∷ []) $ join ! $ move ! (4 ∷ 0 ∷ []) $ join ! $
            -- [the tokens; the cursor; (); the ensures; the value]
            keep ! (0 ∷ 1 ∷ 2 ∷ 3 ∷ []) $ by ! (leaves 𝓛 (ended E) (stayed E) (clauses E 𝓛 at_mem run) bound vunit tt (s, (tt, (tt, tt))) (tt, (tt, (tt, tt)))))

      walk : ent 𝓤 (on_entry 𝓛 (ended E).signature (κ, (κ₁, (κ₂, tt))) (q, (q₁, (q₂, tt))) (record { ref_ptr = (rb, ro); ghost_name = γ; now = h }, (count, (value, tt))) (vptr rb ro ∷ [], (vint w64 count ∷ [], (v ∷ [], tt)))) (WpFn 𝓤 H 𝓣.C 𝓣.Λ (fn' E) (vptr rb ro ∷ vint w64 count ∷ v ∷ []) Post)
      walk =
          qed 𝓛 ((‵ (flft κ q) ⊛ ‵ (flft κ₁ q₁) ⊛ ‵ (flft κ₂ q₂) ⊛ ‵ ftrue) ∷ ‵ (fsep (lent κ γ h) (fsep (usize.own_val count (vint w64 count ∷ [])) (fsep ((Y E).own_val value (v ∷ [])) ftrue))) ∷ []) ∵
          split3 ! $ move ! (2 ∷ []) $ split ! $ move ! (4 ∷ []) $ fsplit ! $ move ! (1 ∷ []) $ fsplit ! $ move ! (1 ∷ []) $ fsplit ! $ keep ! (0 ∷ 3 ∷ 4 ∷ 6 ∷ 7 ∷ []) $
          -- [the value; the cursor; T's token; its token; the token of 'a]
          enter ! 𝓣.C 𝓣.Λ (fn' E) (vptr rb ro ∷ vint w64 count ∷ v ∷ []) Post $ alloc_all ! (λ l. pass_all ! refl ((tt, tt), ((tt, record { fits = low }), (good, tt))) $
          sets ! (of_opd ! (get ! refl)) refl (tt, record { fits = low }) $
          use0 𝓛 (‵ (ends_as (A₀ E) (A₀ E) h.name h.name (λ ws. ws))) (ends_itself 𝓛 (A₀ E) h.name) $ move ! (5 ∷ 0 ∷ []) $ join ! $
          use1 𝓛 (later (‵ (flft κ₁ q₁) ⊛ ‵ (ends_as (A₀ E) (A₀ E) h.name h.name (λ ws. ws)))) (𝓛.laws.⇛_intro _) $ move ! (0 ∷ 2 ∷ 4 ∷ 3 ∷ 1 ∷ []) $
          forget_but ! (En l) (1 ∷ 3 ∷ 4 ∷ []) refl $ first ! $ blocks ! $ loops ! 𝓣 Nearer (InvImage.wf (λ (t : State). t.2) lt-wf_rel.wf) (Now l) (λ t. turns l t.0 t.1 t.2 t.3 t.4) (h, [], count, low, refl))

pub write_next_spec : {M : Type 1} → statement M
unfolding tables_of
write_next_spec 𝓤 𝓛 𝓜 𝓡 wired X L C g d _ =
    let E : El = record { X = X; LX = L; CX = C; g = g; d = d } in
    proved 𝓛 (ended E) (stayed E) (clauses E 𝓛 𝓜.mem 𝓡.returns) 𝓜 𝓡 (Goes-ref 𝓛 3 0 tt (plain (Cursor E)), (Goes-dropped 𝓛 3 (plain (λ _. usize)) yes (λ κs x f. refl), (Goes-dropped 𝓛 3 (plain (λ _. Y E)) no (λ κs x f. refl), tt))) (#self (args E)) (fn' E) (code.unfolded 𝓤 𝓛.H 𝓜 𝓡 wired (X, tt) d)
    (λ κs. (mut_vals, (uint_vals w64, ((λ x. w E x ∷ []), tt)))) (λ κs. (mut_Tells (named 0) κs.0 (Cursor E κs), (uint_Tells w64, ((copied_copy 0 X C).tells, tt)))) (λ κs qs bounds a gh are.
    let good = (((copied_laws 0 X L).lawful 𝓛).typed a.1.1.0 (w E a.1.1.0 ∷ []) are.1.1.0).0 in
    qed 𝓛 (raw (on_entry 𝓛 (ended E).signature κs qs a (mut_vals a.0, (vint w64 a.1.0 ∷ [], (w E a.1.1.0 ∷ [], tt)))) ∷ (raw (fact 𝓤 (κs.1.1.0 ⊑ X.lives)) ⊛ ‵ ftrue) ∷ []) ∵
    move ! (1 ∷ []) $ split ! $ heard ! (κs.1.1.0 ⊑ X.lives) (λ inT. drop ! $
    by ! (walk E 𝓛 𝓜.mem 𝓡.returns κs.0 κs.1.0 κs.1.1.0 a.0.ref_ptr.0 a.0.ref_ptr.1 (tables_of 𝓤 𝓛.H 𝓜 (tables 𝓤 𝓛.H 𝓜 𝓡 𝓡.env)) (next.met 𝓤 𝓛 𝓜 𝓡 (code.calls-image_pixels::pixels_mut::PixelsIterMut::next 𝓡.env wired) X L) qs.0 qs.1.0 qs.1.1.0 bounds inT a.0.ghost_name a.0.now a.1.0 are.1.0.1 a.1.1.0 good)))
