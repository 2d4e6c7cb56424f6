-- `split_end` cuts the row out of the cells, which follow the row and what is kept: its MIR, proved by hand.
use Rattle.std.proofs.Common.{◌≡◌, refl, sym, ap, ◌+◌, ◌-◌, ◌*◌, ◌^◌, ◌<◌, ◌≤◌, arith, List, [], ◌∷◌, ◌++◌, eqb→eq, lit<, length, w64, MutBor, None, Some}
use Rattle.std.proofs.alloc.Shapes.{after}
use Rattle.std.proofs.option.Made.{Some-of}
use Rattle.std.specs.contracts.option.Option as opt
use Rattle.borrow_laws.proofs.Walking.{SProp, emp, id⊢, Lft, Share, ftrue, flft, Args, Fn, named, inst_fn, Val, vint, of_list, WpFn, ◌⊑◌, fact, fact_i, tables, Item, ‵, ◌⊛◌, raw, later, some, prop, at_ret, ◌$◌, ◌∵◌, !, qed, by, move, keep, drop, split, split3, join, fsplit, fjoin, rewrite, regoal, use0, use1, use2, await, pick, updating, now, done, live, whole, sub, agg, stop, fld, hop, from, lit, addr, bin, of_opd, and_then, no_more, first, branches, skips, exec, returns, returns_within, enter, alloc_all, pass_all, free_all, look_at, look_in_at, get, get_in, sets, lands_as, env, Array, usize, follows_both, shows, Is, row_Makes, param, param_laws, uint_Makes, RattleType, owns, plain, named_lft, types_at, MutSlice, nothing, heard, peeks, owned, only, Tuple, calls_at, lasts, triple_of, framed, Stays, stay_dropped, walk_of, Goes-dropped, proved_at, leaves}
use Rattle.borrow_laws.proofs.Bodies.{of_one}
use Rattle.borrow_laws.proofs.Declared.{is_low, typed}
use Rattle.borrow_laws.proofs.Options.{lent_val}
use Rattle.borrow_laws.proofs.Pairs.{pair_val, pair_made, slices_told, slices_out, none_beside}
use Rattle.borrow_laws.proofs.Tests.{one_at_least}
use Rattle.image_shape.specs.Spacing.{without, outer_cut, inner_cut}
use Rattle.image_rows.specs.Rows.{near, far, beside, Yields, Moves}
use Rattle.image_shape.specs.declared.ends.End.{End}
use Rattle.image_shape.specs.declared.spacing.Spacing.{Spacing}
use Rattle.image_shape.specs.declared.spacing.Cuts.{Cuts}
use Rattle.image_rows.specs.declared.writing.RowsIterMut.{RowsIterMut}
use Rattle.image_shape.specs.contracts.ends.End as end_type
use Rattle.image_shape.specs.contracts.spacing.Spacing as spacing_type
use Rattle.image_shape.specs.contracts.spacing.Cuts as cuts_type
use Rattle.image_rows.specs.contracts.writing.RowsIterMut.{the_row}
use Rattle.image_shape.proofs.ends.End.TheLaws as end_laws
use Rattle.image_shape.proofs.spacing.Spacing.TheLaws as spacing_laws
use Rattle.image_shape.proofs.spacing.Cuts.TheLaws as cuts_laws
use Rattle.image_rows.proofs.writing.RowsIterMut.TheLaws as iter_laws
use Rattle.image_rows.proofs.Cuts.{Lies, outer_within, inner_within, gone_is, rest_lies, whole_is, given_at, none_at}
use Rattle.image_rows.proofs.IterValues.{cells_out, cells_in}
use Rattle.image_rows.specs.contracts.parts.cut_out as f
use Rattle.image_rows.proofs.parts.cut_out.Met as parting
use Rattle.image_shape.specs.contracts.spacing.Spacing.cuts as g
use Rattle.image_shape.proofs.spacing.Spacing.cuts.Met as counting
use Rattle.image_rows.specs.contracts.writing.RowsIterMut.split_end.{ended, clauses}
use Rattle.image_rows.specs.contracts.writing.RowsIterMut.split_end.Key.{name as #self}
use Rattle.image_rows.proofs.writing.RowsIterMut.split_end.Statement.{statement}
use Rattle.image_rows.proofs.writing.RowsIterMut.split_end.Code as compiled

pub split_end_spec : {M : Type 1} → statement M
split_end_spec 𝓤 𝓛 𝓜 𝓡 wired T L =
    let H = 𝓛.H in let 𝓣 = tables 𝓤 H 𝓜 𝓡 𝓡.env in let fm = framed 𝓤 H 𝓜 𝓣 in
    let args : Args = of_one T in let fn : Fn = inst_fn args compiled.function in let R : RattleType = param 0 T in let EndRow : RattleType = end_type.the_row in
    let En = ended T in let c = clauses T 𝓛 𝓜.mem 𝓡.returns in let ps = En.signature.params in let stays : Stays En.signature.params En.kept = (stay_dropped _ En.kept.0, (stay_dropped _ En.kept.1.0, tt)) in
    proved_at 𝓛 En stays c 𝓜 𝓡 ((λ κs x f vs ok. qed 𝓛 (‵ ftrue ∷ []) ∵ updating ! $ nothing ! $ fjoin ! $ now ! $ done !), (Goes-dropped 𝓛 2 (plain (λ _. EndRow)) En.kept.1.0 (λ κs x f. refl), tt)) (#self args) fn (compiled.unfolded 𝓤 H 𝓜 𝓡 wired (T, tt)) (λ z are.
    let Post : Val → SProp 𝓤 = (walk_of 𝓛 En stays c).post z in let a = z.0.3 in let vss = z.0.4 in let κ : Lft = z.0.0.0 in let q : Share = z.0.1.0 in let κT : Lft = z.0.0.1.0 in let qT : Share = z.0.1.1.0 in
    let α = named_lft 2 0 tt z.0.0 in
    let LR = param_laws 0 T L in
    let s : RowsIterMut T.Denot = a.0 in
    let end : End = a.1.0 in
    let sp : Spacing = s.spacing in
    let xs : List T.Denot = s.cells.now in
    let It : RattleType = the_row α R in
    let Slice : RattleType = MutSlice (named 0) κ R in
    let Row : RattleType = opt.the_row Slice in
    let Sp : RattleType = spacing_type.the_row in
    let low : RowsIterMut T.Denot → Val = (iter_laws.lowers α R LR).lowered in
    let ok = (typed It (iter_laws.the_row_laws α R LR) (iter_laws.lowers α R LR) 𝓛 s vss.0 are.0).0 in
    let ok_end = (typed EndRow end_laws.the_row_laws end_laws.lowers 𝓛 end vss.1.0 are.1.0).0 in
    let e : Val = end_laws.lowered end in
    let is_end = is_low EndRow end_laws.the_row_laws end_laws.lowers 𝓛 end vss.1.0 are.1.0 in
    let Tok : Item 𝓤 = ‵ (flft κ q) ⊛ ‵ (flft κT qT) ⊛ ‵ ftrue in
    qed 𝓛 ((Tok ⊛ ‵ (owns (types_at ps z.0.0) a vss)) ∷ (raw (fact 𝓤 (κT ⊑ T.lives)) ⊛ raw (emp 𝓤)) ∷ []) ∵
    move ! (1 ∷ []) $ split ! $ heard ! (κT ⊑ T.lives) (λ le. drop ! $ split ! $ move ! (1 ∷ []) $ fsplit ! $ keep ! (0 ∷ 2 ∷ []) $
    -- [the iterator; the tokens]
    rewrite ! 0 (λ (vs : List Val). ‵ (It.own_val s vs)) ((iter_laws.lowers α R LR).val_is s vss.0 are.0) refl $
    regoal ! (λ (vs : List Val). prop (WpFn 𝓤 H 𝓣.C 𝓣.Λ fn vs Post)) (λ k. (iter_laws.lowers α R LR).val_is s vss.0 are.0 k ++ (end_laws.lowers.val_is end vss.1.0 are.1.0 k ++ [])) refl $
    enter ! 𝓣.C 𝓣.Λ fn (low s ∷ e ∷ []) Post $
    alloc_all ! (λ l. pass_all ! refl (ok, (ok_end, tt)) $
    sets ! (of_opd ! (get_in ! (fld ! refl (fld ! refl (stop !))) (sub ! 1 refl (sub ! 1 refl (whole !))))) refl (tt, ok.1.1.0.1.0) $
    sets ! (bin ! (get ! refl) (lit ! tt) tt) refl (tt, tt) $
    first ! $ branches ! (get ! refl)
    (λ t. let none : sp.count ≡ 0 = eqb→eq sp.count 0 t in
    let no_row : Val = live 0 (of_list []) in
    sets ! (agg ! (and_then ! (lit ! tt) (no_more !))) refl (tt, (record { fits = lit< tt }, tt)) $
    sets ! (of_opd ! (get ! refl)) refl ok $
    sets ! (agg ! (and_then ! (get ! refl) (and_then ! (get ! refl) (no_more !)))) refl (tt, ((record { fits = lit< tt }, tt), (ok.1, tt))) $
    returns_within ! Post refl (look_at ! 0 refl) $ free_all ! refl $
    use1 𝓛 (‵ ((Tuple (Row ∷ It ∷ [])).own_val (None, s) (pair_val no_row (low s) ∷ []))) (none_beside 𝓛 Slice It s (low s)) $
    -- [the result; the tokens]
    use0 𝓛 (raw (fact 𝓤 (Moves end s None s))) (fact_i 𝓤 (Moves end s None s) (emp 𝓤) refl) $
    use0 𝓛 (raw (fact 𝓤 (Yields end s None s))) (fact_i 𝓤 (Yields end s None s) (emp 𝓤) (none_at end s none)) $ join ! $ nothing ! $ join ! $
    nothing ! $ nothing ! $ fjoin ! $ nothing ! $ fjoin ! $ move ! (3 ∷ 0 ∷ 2 ∷ 1 ∷ []) $
    by ! (leaves 𝓛 En stays c z (pair_val no_row (low s)) (None, s) ((tt, tt), (tt, tt)) (tt, (tt, tt))))
    (λ t. let one : 0 < sp.count = one_at_least sp.count t in
    skips ! $ exec ! 𝓣.C 𝓣.Λ (env fn.locals l) (after 3 fn.body) (at_ret (env fn.locals l) Post) $
    sets ! (of_opd ! (get_in ! (fld ! refl (stop !)) (sub ! 1 refl (whole !)))) refl (tt, ok.1.1.0) $
    -- [the iterator; the tokens]
    let lies : Lies sp (length xs) = (s.some, s.holds_width, s.fits) in
    let Some₀ : Type 0 = 0 < 1 in
    let There : Type 0 = 1 ≤ sp.count in
    let Wide : Type 0 = sp.width ≤ sp.stride in
    let Reach : Type 0 = sp.skip + (sp.stride * (sp.count - 1) + sp.width) < 2 ^ 64 in
    let fit : length xs < 2 ^ 64 = ok.1.0.1.0.fits in
    let is_sp = is_low Sp spacing_laws.the_row_laws spacing_laws.lowers 𝓛 sp _ are.0.1.1.1.0 in
    let GC = triple_of 𝓛 g.signature (g.spec 𝓛 𝓜.mem 𝓡.returns) in
    let zc : GC.Ghost = ((tt, tt, tt, (sp, (end, (1, tt))), (spacing_laws.lowered sp ∷ [], (e ∷ [], (vint w64 1 ∷ [], tt)))), tt) in
    nothing ! $ owned ! usize (Is usize) (uint_Makes 𝓛 w64) 1 (vint w64 1 ∷ []) (refl, lit< tt) $ join ! $
    owned ! EndRow (Is EndRow) (row_Makes EndRow end_laws.the_row_plain 𝓛) end (e ∷ []) is_end $ join ! $
    owned ! Sp (Is Sp) (row_Makes Sp spacing_laws.the_row_plain 𝓛) sp (spacing_laws.lowered sp ∷ []) is_sp $ join ! $ nothing ! $ join ! $
    use0 𝓛 (raw (fact 𝓤 Reach)) (fact_i 𝓤 Reach (emp 𝓤) (omega (arith, s.fits one, fit))) $
    use0 𝓛 (raw (fact 𝓤 Wide)) (fact_i 𝓤 Wide (emp 𝓤) s.holds_width) $ join ! $
    use0 𝓛 (raw (fact 𝓤 There)) (fact_i 𝓤 There (emp 𝓤) one) $ join ! $
    use0 𝓛 (raw (fact 𝓤 Some₀)) (fact_i 𝓤 Some₀ (emp 𝓤) (lit< tt)) $ join ! $ move ! (1 ∷ 0 ∷ []) $ use2 𝓛 (raw (GC.pre zc)) (id⊢ 𝓤 _) $
    calls_at ! fm GC (counting.met 𝓤 𝓛 𝓜 𝓡 (compiled.calls-image_shape::spacing::Spacing::cuts 𝓡.env wired)) zc (and_then ! (get ! refl) (and_then ! (get ! refl) (and_then ! (lit ! tt) (no_more !)))) (λ vc.
    let Cut : RattleType = cuts_type.the_row in
    use1 𝓛 (later (some (λ (n : Cuts). (‵ ftrue ⊛ ‵ (Cut.own_val n (vc ∷ []))) ⊛ some (λ (ws : Unit {0} × (Unit {0} × (Unit {0} × Unit {0}))). ‵ (lasts g.ended zc.0.0 zc.0.3 ws)
    ⊛ (raw (fact 𝓤 (n.outer ≡ outer_cut end 1 sp)) ⊛ raw (fact 𝓤 (n.inner ≡ inner_cut end 1 sp)) ⊛ raw (fact 𝓤 (n.rest ≡ without end 1 sp))))))) (id⊢ 𝓤 _) $
    await ! tt $ pick ! (λ n. split ! $ split ! $ drop ! $ move ! (1 ∷ []) $ pick ! (λ wsc. split ! $ drop ! $ split3 ! $
    heard ! (n.outer ≡ outer_cut end 1 sp) (λ is_outer. heard ! (n.inner ≡ inner_cut end 1 sp) (λ is_inner. heard ! (n.rest ≡ without end 1 sp) (λ is_rest.
    -- [the numbers; the iterator; the tokens]
    peeks ! Cut (Is Cut) (shows 𝓛 Cut) n (vc ∷ []) (λ isc. drop ! $ let okc = (typed Cut cuts_laws.the_row_laws cuts_laws.lowers 𝓛 n (vc ∷ []) isc).0 in
    lands_as ! (ap only (cuts_laws.lowers.val_is n (vc ∷ []) isc)) refl okc $
    use1 𝓛 (‵ (Slice.own_val s.cells (lent_val s.cells ∷ []))) (cells_out α R LR 𝓛 s (low s ∷ [])) $
    sets ! (addr ! (from ! (fld ! refl (fld ! refl (hop ! (look_in_at ! 1 (sub ! 0 refl (sub ! 0 refl (whole !)))) (stop !)))))) refl (tt, tt) $
    sets ! (agg ! (and_then ! (get ! refl) (and_then ! (get_in ! (fld ! refl (fld ! refl (stop !))) (sub ! 1 refl (sub ! 0 refl (whole !)))) (no_more !)))) refl (tt, ok.1.0) $
    -- [the cells; the tokens]
    let Pair : Type 0 = MutBor (List T.Denot) × MutBor (List T.Denot) in
    let Two : RattleType = Tuple (Slice ∷ Slice ∷ []) in
    let G = triple_of 𝓛 (f.signature T) (f.spec T 𝓛 𝓜.mem 𝓡.returns) in
    let z₁ : G.Ghost = (((κ, (κT, tt)), (q, (qT, tt)), z.0.2, (s.cells, (end, (n.outer, (n.inner, tt)))), (lent_val s.cells ∷ [], (e ∷ [], (vint w64 n.outer ∷ [], (vint w64 n.inner ∷ [], tt))))), tt) in
    let Outer : Type 0 = n.outer ≤ length xs in
    let Inner : Type 0 = n.inner ≤ length (near end n.outer xs) in
    let gone : List T.Denot = near end n.inner (near end n.outer xs) in
    nothing ! $ owned ! usize (Is usize) (uint_Makes 𝓛 w64) n.inner (vint w64 n.inner ∷ []) (refl, okc.1.1.0.fits) $ join ! $
    owned ! usize (Is usize) (uint_Makes 𝓛 w64) n.outer (vint w64 n.outer ∷ []) (refl, okc.1.0.fits) $ join ! $
    owned ! EndRow (Is EndRow) (row_Makes EndRow end_laws.the_row_plain 𝓛) end (e ∷ []) is_end $ join ! $ move ! (1 ∷ 0 ∷ []) $ join ! $ move ! (1 ∷ 0 ∷ []) $ join ! $
    use0 𝓛 (raw (fact 𝓤 Inner)) (fact_i 𝓤 Inner (emp 𝓤) (rw (is_outer, is_inner) (inner_within sp 1 xs lies (lit< tt) one end))) $ use0 𝓛 (raw (fact 𝓤 Outer)) (fact_i 𝓤 Outer (emp 𝓤) (omega (arith, is_outer, outer_within sp 1 xs lies (lit< tt) one end))) $ join ! $
    use0 𝓛 (raw (fact 𝓤 (κT ⊑ T.lives))) (fact_i 𝓤 (κT ⊑ T.lives) (emp 𝓤) le) $ join ! $ move ! (1 ∷ 0 ∷ []) $ use2 𝓛 (raw (G.pre z₁)) (id⊢ 𝓤 _) $
    calls_at ! fm G (parting.met 𝓤 𝓛 𝓜 𝓡 (compiled.calls-image_rows::parts::cut_out 𝓡.env wired) T L) z₁ (and_then ! (get ! refl) (and_then ! (get ! refl) (and_then ! (get_in ! (fld ! refl (stop !)) (sub ! 0 refl (whole !))) (and_then ! (get_in ! (fld ! refl (stop !)) (sub ! 1 refl (whole !))) (no_more !))))) (λ v.
    use1 𝓛 (later (some (λ (r : Pair). (Tok ⊛ ‵ (Two.own_val r (v ∷ []))) ⊛ some (λ (ws : Unit {0} × (Unit {0} × (Unit {0} × (Unit {0} × Unit {0})))). ‵ (lasts (f.ended T) z₁.0.0 z₁.0.3 ws)
    ⊛ (‵ (follows_both (Array R 0) (Array R 0) (Array R 0) s.cells.ghost_name r.0.ghost_name r.1.ghost_name (λ w ws. beside end (beside end gone w) ws)) ⊛ raw (fact 𝓤 (r.0.now ≡ far end n.inner (near end n.outer xs))) ⊛ raw (fact 𝓤 (r.1.now ≡ far end n.outer xs))))))) (id⊢ 𝓤 _) $
    await ! tt $ pick ! (λ r. split ! $ split ! $ move ! (2 ∷ []) $ pick ! (λ ws. split ! $ drop ! $ split ! $ move ! (1 ∷ []) $ split ! $ heard ! (r.0.now ≡ far end n.inner (near end n.outer xs)) (λ is_row. heard ! (r.1.now ≡ far end n.outer xs) (λ is_kept.
    -- [what follows; the tokens; the row and what is kept]
    move ! (2 ∷ []) $ peeks ! Two (Is Two) (shows 𝓛 Two) r (v ∷ []) (λ is. let both = slices_told κ R r v is in
    lands_as ! (ap only both.0) refl (tt, (both.1, (both.2, tt))) $
    use1 𝓛 (‵ (Slice.own_val r.0 (lent_val r.0 ∷ [])) ⊛ ‵ (Slice.own_val r.1 (lent_val r.1 ∷ []))) (slices_out κ R r v 𝓛) $ split ! $
    -- [the row; what is kept; what follows; the tokens]
    move ! (2 ∷ 0 ∷ 3 ∷ 1 ∷ []) $
    -- [what follows; the row; the tokens; what is kept]
    rewrite ! 0 (λ (us : List T.Denot). ‵ (follows_both (Array R 0) (Array R 0) (Array R 0) s.cells.ghost_name r.0.ghost_name r.1.ghost_name (λ w ws. beside end (beside end us w) ws))) (rw (is_outer, is_inner) (gone_is end sp xs)) refl $
    sets ! (of_opd ! (get_in ! (fld ! refl (stop !)) (sub ! 0 refl (whole !)))) refl (tt, both.1) $
    sets ! (of_opd ! (get_in ! (fld ! refl (stop !)) (sub ! 1 refl (whole !)))) refl (tt, both.2) $
    let okm = okc.1.1.1.0 in
    sets ! (addr ! (from ! (fld ! refl (hop ! (look_in_at ! 5 (sub ! 0 refl (whole !))) (stop !))))) refl (tt, tt) $
    sets ! (agg ! (and_then ! (get ! refl) (and_then ! (get_in ! (fld ! refl (stop !)) (sub ! 1 refl (whole !))) (no_more !)))) refl (tt, both.2) $
    sets ! (of_opd ! (get_in ! (fld ! refl (stop !)) (sub ! 2 refl (whole !)))) refl (tt, okm) $
    sets ! (agg ! (and_then ! (get ! refl) (and_then ! (get ! refl) (no_more !)))) refl (tt, (both.2, (okm, tt))) $
    sets ! (addr ! (from ! (fld ! refl (hop ! (look_in_at ! 4 (sub ! 0 refl (whole !))) (stop !))))) refl (tt, tt) $
    sets ! (agg ! (and_then ! (get ! refl) (and_then ! (get_in ! (fld ! refl (stop !)) (sub ! 1 refl (whole !))) (no_more !)))) refl (tt, both.1) $
    sets ! (agg ! (and_then ! (lit ! tt) (and_then ! (get ! refl) (no_more !)))) refl (tt, (record { fits = lit< tt }, (both.1, tt))) $
    sets ! (of_opd ! (get ! refl)) refl (tt, (both.2, (okm, tt))) $
    sets ! (agg ! (and_then ! (get ! refl) (and_then ! (get ! refl) (no_more !)))) refl (tt, ((record { fits = lit< tt }, (both.1, tt)), ((both.2, (okm, tt)), tt))) $
    returns ! (look_at ! 0 refl) $ free_all ! refl $
    let rest : Lies n.rest (length r.1.now) = rw (is_rest, is_kept, is_outer) (rest_lies sp 1 xs lies (lit< tt) one end) in
    let left : RowsIterMut T.Denot = record { cells = r.1; spacing = n.rest; some = rest.0; holds_width = rest.1; fits = rest.2 } in
    let row_word : Val = lent_val r.0 in
    let some_row : Val = live 1 (of_list (row_word ∷ [])) in
    let word : Val = pair_val some_row (low left) in
    let Steps : Type 0 = Yields end s (Some r.0) left in
    let steps : Steps = given_at end s left r.0 one (rw (is_row, is_outer, is_inner) refl) (rw (is_kept, is_outer) refl) is_rest in
    let Moved : Type 0 = Moves end s (Some r.0) left in
    let moved : Moved = (rw (is_kept, is_row, is_outer, is_inner) (whole_is end (outer_cut end 1 sp) (inner_cut end 1 sp) xs _ _ _ _ refl refl (sym (gone_is end sp xs)) refl), is_rest) in
    -- [what follows; the row; the tokens; what is kept]
    move ! (1 ∷ []) $ use1 𝓛 (‵ (Row.own_val (Some r.0) (some_row ∷ []))) (Some-of 𝓛 Slice r.0 row_word) $
    move ! (3 ∷ []) $ use1 𝓛 (‵ (It.own_val left (low left ∷ []))) (cells_in α R LR 𝓛 left (is_low Sp spacing_laws.the_row_laws spacing_laws.lowers 𝓛 n.rest _ isc.1.1.1.1.0)) $
    move ! (1 ∷ 0 ∷ []) $ use2 𝓛 (‵ ((Tuple (Row ∷ It ∷ [])).own_val (Some r.0, left) (word ∷ []))) (pair_made Row It (Some r.0) left some_row (low left) 𝓛) $
    -- [the result; what follows; the tokens]
    use0 𝓛 (raw (fact 𝓤 Moved)) (fact_i 𝓤 Moved (emp 𝓤) moved) $ use0 𝓛 (raw (fact 𝓤 Steps)) (fact_i 𝓤 Steps (emp 𝓤) steps) $ join ! $ move ! (2 ∷ 0 ∷ []) $ join ! $
    nothing ! $ nothing ! $ fjoin ! $ nothing ! $ fjoin ! $
    -- [the parameters; the ensures; the result; the tokens]
    move ! (3 ∷ 0 ∷ 2 ∷ 1 ∷ []) $ by ! (leaves 𝓛 En stays c z word (Some r.0, left) ((tt, tt), (tt, tt)) (tt, (tt, tt))))))))))))))))))))
