-- `cut_out` cuts twice, and the cells follow what lies between the cuts and what is kept: its MIR, proved by hand.
use Rattle.std.proofs.Common.{◌≡◌, refl, ap, ◌∙◌, ℕ, ◌^◌, ◌<◌, ◌≤◌, List, [], ◌∷◌, ◌++◌, length, w64, MutBor}
use Rattle.borrow_laws.proofs.Walking.{SProp, ent, sep, emp, id⊢, Lft, Share, ftrue, flft, fres, coded_list, Args, Fn, named, inst_fn, Val, vint, WpFn, ◌⊑◌, fact, fact_i, tables, Item, ‵, ◌⊛◌, raw, later, some, prop, ◌$◌, ◌∵◌, !, qed, by, move, keep, drop, split, split3, join, fsplit, fjoin, rewrite, regoal, use0, use1, use2, use3, await, pick, updating, now, done, sem, whole, sub, agg, stop, fld, hop, from, addr, of_opd, and_then, no_more, returns, enter, alloc_all, pass_all, free_all, look_at, look_in_at, get, get_in, sets, lands_as, Array, usize, yes, follows_both, shows, Is, row_Makes, param, uint_Makes, RattleType, owns, plain, types_at, MutSlice, Room, nothing, heard, peeks, owned, only, Tuple, calls_at, lasts, triple_of, framed, Stays, stay_dropped, walk_of, Goes-dropped, proved_at, leaves}
use Rattle.borrow_laws.proofs.Bodies.{of_one}
use Rattle.borrow_laws.proofs.Declared.{is_low, typed}
use Rattle.borrow_laws.proofs.Options.{lent_val}
use Rattle.borrow_laws.proofs.Pairs.{pair_val, pair_made, slices_told, slices_out}
use Rattle.borrow_laws.proofs.Parts.{given_up, cut_within}
use Rattle.image_rows.specs.Rows.{near, far, beside}
use Rattle.image_shape.specs.declared.ends.End.{End}
use Rattle.image_shape.specs.contracts.ends.End as end_type
use Rattle.image_shape.proofs.ends.End.TheLaws as end_laws
use Rattle.image_rows.specs.contracts.parts.part as f
use Rattle.image_rows.proofs.parts.part.Met as parting
use Rattle.image_rows.specs.contracts.parts.cut_out.{ended, clauses}
use Rattle.image_rows.specs.contracts.parts.cut_out.Key.{name as #self}
use Rattle.image_rows.proofs.parts.cut_out.Statement.{statement}
use Rattle.image_rows.proofs.parts.cut_out.Code as compiled

pub cut_out_spec : {M : Type 1} → statement M
cut_out_spec 𝓤 𝓛 𝓜 𝓡 wired T L =
    let H = 𝓛.H in let 𝓣 = tables 𝓤 H 𝓜 𝓡 𝓡.env in let fm = framed 𝓤 H 𝓜 𝓣 in
    let args : Args = of_one T in let fn : Fn = inst_fn args compiled.function in let R : RattleType = param 0 T in let EndRow : RattleType = end_type.the_row in
    let En = ended T in let c = clauses T 𝓛 𝓜.mem 𝓡.returns in let ps = En.signature.params in
    let stays : Stays En.signature.params En.kept = (stay_dropped _ En.kept.0, (stay_dropped _ En.kept.1.0, (stay_dropped _ En.kept.1.1.0, (stay_dropped _ En.kept.1.1.1.0, tt)))) in
    let number = Goes-dropped 𝓛 2 (plain (λ _. usize)) yes (λ κs x f. refl) in
    proved_at 𝓛 En stays c 𝓜 𝓡 ((λ κs x f vs ok. qed 𝓛 (‵ ftrue ∷ []) ∵ updating ! $ now ! $ done !), (Goes-dropped 𝓛 2 (plain (λ _. EndRow)) En.kept.1.0 (λ κs x f. refl), (number, (number, tt)))) (#self args) fn (compiled.unfolded 𝓤 H 𝓜 𝓡 wired (T, tt)) (λ z are.
    let Post : Val → SProp 𝓤 = (walk_of 𝓛 En stays c).post z in let a = z.0.3 in let vss = z.0.4 in let κ : Lft = z.0.0.0 in let q : Share = z.0.1.0 in let κT : Lft = z.0.0.1.0 in let qT : Share = z.0.1.1.0 in
    let cells : MutBor (List T.Denot) = a.0 in
    let end : End = a.1.0 in
    let outer : ℕ = a.1.1.0 in
    let inner : ℕ = a.1.1.1.0 in
    let xs : List T.Denot = cells.now in
    let Slice : RattleType = MutSlice (named 0) κ R in
    let cells_told = are.0.0.0 in
    let room : Room R (length xs) = are.0.0.1 in
    let ok_end = (typed EndRow end_laws.the_row_laws end_laws.lowers 𝓛 end vss.1.0 are.1.0).0 in
    let e : Val = end_laws.lowered end in
    let is_end = is_low EndRow end_laws.the_row_laws end_laws.lowers 𝓛 end vss.1.0 are.1.0 in
    let Reach : Type 0 = outer ≤ length xs in
    let Within : Type 0 = inner ≤ length (near end outer xs) in
    let Tok : Item 𝓤 = ‵ (flft κ q) ⊛ ‵ (flft κT qT) ⊛ ‵ ftrue in
    qed 𝓛 ((Tok ⊛ ‵ (owns (types_at ps z.0.0) a vss)) ∷ (raw (fact 𝓤 (κT ⊑ T.lives)) ⊛ raw (fact 𝓤 Reach) ⊛ raw (fact 𝓤 Within)) ∷ []) ∵
    move ! (1 ∷ []) $ split3 ! $ heard ! (κT ⊑ T.lives) (λ le. heard ! Reach (λ reach. heard ! Within (λ within. split ! $ move ! (1 ∷ []) $ fsplit ! $ keep ! (0 ∷ 2 ∷ []) $
    -- [the cells; the tokens]
    rewrite ! 0 (λ (vs : List Val). ‵ (Slice.own_val cells vs)) cells_told refl $
    regoal ! (λ (vs : List Val). prop (WpFn 𝓤 H 𝓣.C 𝓣.Λ fn vs Post)) (λ k. cells_told k ++ (end_laws.lowers.val_is end vss.1.0 are.1.0 k ++ (are.1.1.0.0 k ++ (are.1.1.1.0.0 k ++ [])))) refl $
    enter ! 𝓣.C 𝓣.Λ fn (lent_val cells ∷ e ∷ vint w64 outer ∷ vint w64 inner ∷ []) Post $
    alloc_all ! (λ l. pass_all ! refl ((tt, (tt, (record { fits = room.0 }, tt))), (ok_end, ((tt, record { fits = are.1.1.0.1 }), ((tt, record { fits = are.1.1.1.0.1 }), tt)))) $
    sets ! (addr ! (from ! (fld ! refl (hop ! (look_in_at ! 1 (sub ! 0 refl (whole !))) (stop !))))) refl (tt, tt) $
    sets ! (agg ! (and_then ! (get ! refl) (and_then ! (get_in ! (fld ! refl (stop !)) (sub ! 1 refl (whole !))) (no_more !)))) refl (tt, (tt, (record { fits = room.0 }, tt))) $
    let Pair : Type 0 = MutBor (List T.Denot) × MutBor (List T.Denot) in
    let Two : RattleType = Tuple (Slice ∷ Slice ∷ []) in
    let G = triple_of 𝓛 (f.signature T) (f.spec T 𝓛 𝓜.mem 𝓡.returns) in
    -- a call of `part` on these cells, and what it leaves
    let at_cut : MutBor (List T.Denot) → ℕ → G.Ghost = λ x k. (((κ, (κT, tt)), (q, (qT, tt)), z.0.2, (x, (end, (k, tt))), (lent_val x ∷ [], (e ∷ [], (vint w64 k ∷ [], tt)))), tt) in
    let Parts : MutBor (List T.Denot) → Pair → Item 𝓤 = λ x r. ‵ (follows_both (Array R 0) (Array R 0) (Array R 0) x.ghost_name r.0.ghost_name r.1.ghost_name (beside end)) in
    let Parted : MutBor (List T.Denot) → ℕ → Val → Item 𝓤 = λ x k v. later (some (λ (r : Pair). (Tok ⊛ ‵ (Two.own_val r (v ∷ [])))
    ⊛ some (λ (ws : Unit {0} × (Unit {0} × (Unit {0} × Unit {0}))). ‵ (lasts (f.ended T) (at_cut x k).0.0 (at_cut x k).0.3 ws) ⊛ (Parts x r ⊛ raw (fact 𝓤 (r.0.now ≡ near end k x.now)) ⊛ raw (fact 𝓤 (r.1.now ≡ far end k x.now)))))) in
    let asks : (x : MutBor (List T.Denot)) (k : ℕ) → k < 2 ^ 64 → k ≤ length x.now → ent 𝓤 (sep 𝓤 (sem 𝓛 (Slice.own_val x (lent_val x ∷ []))) (sep 𝓤 (𝓛.A.lft κ q) (sep 𝓤 (𝓛.A.lft κT qT) (sem 𝓛 ftrue)))) (G.pre (at_cut x k)) = λ x k fits inside.
    qed 𝓛 (‵ (Slice.own_val x (lent_val x ∷ [])) ∷ Tok ∷ []) ∵ nothing ! $ owned ! usize (Is usize) (uint_Makes 𝓛 w64) k (vint w64 k ∷ []) (refl, fits) $ join ! $
    owned ! EndRow (Is EndRow) (row_Makes EndRow end_laws.the_row_plain 𝓛) end (e ∷ []) is_end $ join ! $ move ! (1 ∷ 0 ∷ []) $ join ! $ move ! (1 ∷ 0 ∷ []) $ join ! $
    use0 𝓛 (raw (fact 𝓤 (k ≤ length x.now))) (fact_i 𝓤 (k ≤ length x.now) (emp 𝓤) inside) $ use0 𝓛 (raw (fact 𝓤 (κT ⊑ T.lives))) (fact_i 𝓤 (κT ⊑ T.lives) (emp 𝓤) le) $ join ! $
    move ! (1 ∷ 0 ∷ []) $ by ! (id⊢ 𝓤 _) in
    use2 𝓛 (raw (G.pre (at_cut cells outer))) (asks cells outer are.1.1.0.1 reach) $
    calls_at ! fm G (parting.met 𝓤 𝓛 𝓜 𝓡 (compiled.calls-image_rows::parts::part 𝓡.env wired) T L) (at_cut cells outer) (and_then ! (get ! refl) (and_then ! (get ! refl) (and_then ! (get ! refl) (no_more !)))) (λ v.
    use1 𝓛 (Parted cells outer v) (id⊢ 𝓤 _) $
    await ! tt $ pick ! (λ r. split ! $ split ! $ move ! (2 ∷ []) $ pick ! (λ ws. split ! $ drop ! $ split ! $ move ! (1 ∷ []) $ split ! $ heard ! (r.0.now ≡ near end outer xs) (λ is_piece. heard ! (r.1.now ≡ far end outer xs) (λ is_kept.
    -- [what follows; the tokens; the two parts]
    move ! (2 ∷ []) $ peeks ! Two (Is Two) (shows 𝓛 Two) r (v ∷ []) (λ is. let both = slices_told κ R r v is in
    lands_as ! (ap only both.0) refl (tt, (both.1, (both.2, tt))) $
    use1 𝓛 (‵ (Slice.own_val r.0 (lent_val r.0 ∷ [])) ⊛ ‵ (Slice.own_val r.1 (lent_val r.1 ∷ []))) (slices_out κ R r v 𝓛) $ split ! $
    -- [the piece; what is kept; what follows; the tokens]
    sets ! (of_opd ! (get_in ! (fld ! refl (stop !)) (sub ! 0 refl (whole !)))) refl (tt, both.1) $
    sets ! (of_opd ! (get_in ! (fld ! refl (stop !)) (sub ! 1 refl (whole !)))) refl (tt, both.2) $
    sets ! (addr ! (from ! (fld ! refl (hop ! (look_in_at ! 5 (sub ! 0 refl (whole !))) (stop !))))) refl (tt, tt) $
    sets ! (agg ! (and_then ! (get ! refl) (and_then ! (get_in ! (fld ! refl (stop !)) (sub ! 1 refl (whole !))) (no_more !)))) refl (tt, both.1) $
    move ! (0 ∷ 3 ∷ []) $
    -- [the piece; the tokens; what is kept; what follows]
    use2 𝓛 (raw (G.pre (at_cut r.0 inner))) (asks r.0 inner are.1.1.1.0.1 (rw is_piece within)) $
    calls_at ! fm G (parting.met 𝓤 𝓛 𝓜 𝓡 (compiled.calls-image_rows::parts::part 𝓡.env wired) T L) (at_cut r.0 inner) (and_then ! (get ! refl) (and_then ! (get ! refl) (and_then ! (get ! refl) (no_more !)))) (λ v₂.
    use1 𝓛 (Parted r.0 inner v₂) (id⊢ 𝓤 _) $
    await ! tt $ pick ! (λ r₂. split ! $ split ! $ move ! (2 ∷ []) $ pick ! (λ ws₂. split ! $ drop ! $ split ! $ move ! (1 ∷ []) $ split ! $ heard ! (r₂.0.now ≡ near end inner r.0.now) (λ is_gone. heard ! (r₂.1.now ≡ far end inner r.0.now) (λ is_cut.
    move ! (2 ∷ []) $ peeks ! Two (Is Two) (shows 𝓛 Two) r₂ (v₂ ∷ []) (λ is₂. let both₂ = slices_told κ R r₂ v₂ is₂ in
    lands_as ! (ap only both₂.0) refl (tt, (both₂.1, (both₂.2, tt))) $
    use1 𝓛 (‵ (Slice.own_val r₂.0 (lent_val r₂.0 ∷ [])) ⊛ ‵ (Slice.own_val r₂.1 (lent_val r₂.1 ∷ []))) (slices_out κ R r₂ v₂ 𝓛) $ split ! $
    use1 𝓛 (‵ (fres r₂.0.ghost_name ((coded_list R.coded).code r₂.0.now))) (given_up 𝓛 R (named 0) κ r₂.0 (lent_val r₂.0 ∷ [])) $
    -- [what is let go; the cut; what follows the piece; the tokens; what is kept; what follows]
    move ! (5 ∷ 0 ∷ 2 ∷ []) $
    use3 𝓛 (‵ (follows_both (Array R 0) (Array R 0) (Array R 0) cells.ghost_name r₂.1.ghost_name r.1.ghost_name (λ w us. beside end (beside end r₂.0.now w) us))) (cut_within 𝓛 R cells.ghost_name r.0.ghost_name r.1.ghost_name r₂.0.ghost_name r₂.1.ghost_name (beside end) (beside end) r₂.0.now) $
    -- [what follows; the cut; the tokens; what is kept]
    let Cut : Type 0 = r₂.1.now ≡ far end inner (near end outer xs) in
    let Kept : Type 0 = r.1.now ≡ far end outer xs in
    rewrite ! 0 (λ (us : List T.Denot). ‵ (follows_both (Array R 0) (Array R 0) (Array R 0) cells.ghost_name r₂.1.ghost_name r.1.ghost_name (λ w ws. beside end (beside end us w) ws))) (is_gone ∙ ap (near end inner) is_piece) refl $
    sets ! (of_opd ! (get_in ! (fld ! refl (stop !)) (sub ! 1 refl (whole !)))) refl (tt, both₂.2) $
    sets ! (addr ! (from ! (fld ! refl (hop ! (look_in_at ! 7 (sub ! 0 refl (whole !))) (stop !))))) refl (tt, tt) $
    sets ! (agg ! (and_then ! (get ! refl) (and_then ! (get_in ! (fld ! refl (stop !)) (sub ! 1 refl (whole !))) (no_more !)))) refl (tt, both₂.2) $
    sets ! (addr ! (from ! (fld ! refl (hop ! (look_in_at ! 6 (sub ! 0 refl (whole !))) (stop !))))) refl (tt, tt) $
    sets ! (agg ! (and_then ! (get ! refl) (and_then ! (get_in ! (fld ! refl (stop !)) (sub ! 1 refl (whole !))) (no_more !)))) refl (tt, both.2) $
    sets ! (agg ! (and_then ! (get ! refl) (and_then ! (get ! refl) (no_more !)))) refl (tt, (both₂.2, (both.2, tt))) $
    returns ! (look_at ! 0 refl) $ free_all ! refl $
    let word : Val = pair_val (lent_val r₂.1) (lent_val r.1) in
    move ! (1 ∷ 3 ∷ []) $ use2 𝓛 (‵ (Two.own_val (r₂.1, r.1) (word ∷ []))) (pair_made Slice Slice r₂.1 r.1 (lent_val r₂.1) (lent_val r.1) 𝓛) $
    -- [the result; what follows; the tokens]
    use0 𝓛 (raw (fact 𝓤 Kept)) (fact_i 𝓤 Kept (emp 𝓤) is_kept) $ use0 𝓛 (raw (fact 𝓤 Cut)) (fact_i 𝓤 Cut (emp 𝓤) (is_cut ∙ ap (far end inner) is_piece)) $ join ! $ move ! (2 ∷ 0 ∷ []) $ join ! $
    nothing ! $ nothing ! $ fjoin ! $ nothing ! $ fjoin ! $ nothing ! $ fjoin ! $ nothing ! $ fjoin ! $
    -- [the parameters; the ensures; the result; the tokens]
    move ! (3 ∷ 0 ∷ 2 ∷ 1 ∷ []) $ by ! (leaves 𝓛 En stays c z word (r₂.1, r.1) (tt, (tt, (tt, (tt, tt)))) (tt, (tt, (tt, (tt, tt))))))))))))))))))))))
