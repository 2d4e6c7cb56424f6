-- `split_first` cuts the band out of the cells, which follow the band and what is kept: its MIR, proved by hand.
use Rattle.std.proofs.Common.{◌≡◌, ℕ, refl, sym, ap, ◌∙◌, ◌+◌, ◌-◌, ◌*◌, ◌^◌, ◌<◌, ◌≤◌, arith, List, [], ◌∷◌, ◌++◌, eqb→eq, lit<, length, take, drop as drop_list, w64, MutBor, None, Some}
use Rattle.std.proofs.alloc.Shapes.{after}
use Rattle.std.proofs.option.Made.{Some-of}
use Rattle.std.specs.contracts.option.Option as opt
use Rattle.borrow_laws.proofs.Walking.{SProp, emp, id⊢, Lft, GName, Share, ftrue, flft, Args, Fn, named, inst_fn, Val, WT, vint, of_list, WpFn, ◌⊑◌, ⊑_refl, ⊑_trans, ⊑_meet, fact, fact_i, tables, Item, ‵, ◌⊛◌, raw, later, some, prop, at_ret, ◌$◌, ◌∵◌, !, qed, by, move, keep, drop, split, split3, join, fsplit, fjoin, rewrite, regoal, use0, use1, use2, await, pick, updating, now, done, live, whole, sub, agg, stop, fld, hop, from, lit, addr, bin, of_opd, and_then, no_more, first, branches, skips, exec, returns, returns_within, enter, alloc_all, pass_all, free_all, look_at, look_in_at, get, get_in, sets, lands_as, env, Array, usize, follows_both, shows, Is, row_Makes, param, param_laws, uint_Makes, RattleType, owns, named_lft, types_at, MutSlice, nothing, heard, peeks, owned, only, Tuple, calls_at, lasts, triple_of, framed, Stays, stay_dropped, walk_of, proved_at, leaves}
use Rattle.borrow_laws.proofs.Bodies.{of_one}
use Rattle.borrow_laws.proofs.Declared.{is_low, typed}
use Rattle.borrow_laws.proofs.Options.{lent_val}
use Rattle.borrow_laws.proofs.Pairs.{pair_val, pair_made, slices_told, slices_out, none_beside}
use Rattle.std.specs.Iterator.{YieldsFirstBy}
use Rattle.image_shape.specs.contracts.shape.Shape as shape_type
use Rattle.image_shape.proofs.shape.Shape.TheLaws as shape_laws
use Rattle.imgref.specs.declared.img.Img.{Img}
use Rattle.imgref.specs.Image.{mut_layout, shape_of}
use Rattle.imgref.proofs.ImageValues.{img_val, img_row, img_told, LentCells, lent_cells_laws}
use Rattle.imgref.specs.contracts.img.Img.from_parts as h
use Rattle.imgref.proofs.img.Img.from_parts.Met as making
use Rattle.image_tiles.specs.Bands.{bands_left, band_rows, behind, put_back, Moves}
use Rattle.image_tiles.specs.declared.bands.BandSpacing.{BandSpacing}
use Rattle.image_tiles.specs.declared.bands.Cut.{Cut}
use Rattle.image_tiles.specs.declared.bands.BandsMut.{BandsMut}
use Rattle.image_tiles.specs.contracts.bands.BandSpacing as spacing_type
use Rattle.image_tiles.specs.contracts.bands.Cut as cut_type
use Rattle.image_tiles.specs.contracts.bands.BandsMut.{the_row}
use Rattle.image_tiles.proofs.bands.BandSpacing.TheLaws as spacing_laws
use Rattle.image_tiles.proofs.bands.Cut.TheLaws as cut_laws
use Rattle.image_tiles.proofs.bands.BandsMut.TheLaws as iter_laws
use Rattle.image_rows.proofs.Cuts.{Lies, outer_within, inner_within, gone_first, rest_lies, whole_is}
use Rattle.image_tiles.proofs.BandsCut.{cut_end, given, none_at}
use Rattle.borrow_laws.proofs.Tests.{one_at_least}
use Rattle.image_tiles.proofs.BandValues.{cells_out, cells_in}
use Rattle.image_rows.specs.contracts.cut_out as f
use Rattle.image_rows.proofs.cut_out.Met as parting
use Rattle.image_shape.specs.declared.ends.End.TheVariants.{First}
use Rattle.image_shape.specs.contracts.ends.End as end_type
use Rattle.image_shape.proofs.ends.End.TheLaws as end_laws
use Rattle.image_tiles.specs.contracts.bands.BandSpacing.cut as g
use Rattle.image_tiles.proofs.bands.BandSpacing.cut.Met as counting
use Rattle.image_tiles.specs.contracts.bands.BandsMut.split_first.{ended, clauses}
use Rattle.image_tiles.specs.contracts.bands.BandsMut.split_first.Key.{name as #self}
use Rattle.image_tiles.proofs.bands.BandsMut.split_first.Statement.{statement}
use Rattle.image_tiles.proofs.bands.BandsMut.split_first.Code as compiled

pub split_first_spec : {M : Type 1} → statement M
split_first_spec 𝓤 𝓛 𝓜 𝓡 wired T L =
    let H = 𝓛.H in let 𝓣 = tables 𝓤 H 𝓜 𝓡 𝓡.env in let fm = framed 𝓤 H 𝓜 𝓣 in
    let args : Args = of_one T in let fn : Fn = inst_fn args compiled.function in let R : RattleType = param 0 T in
    let En = ended T in let c = clauses T 𝓛 𝓜.mem 𝓡.returns in let ps = En.signature.params in let stays : Stays En.signature.params En.kept = (stay_dropped _ En.kept.0, tt) in
    proved_at 𝓛 En stays c 𝓜 𝓡 ((λ κs x f vs ok. qed 𝓛 (‵ ftrue ∷ []) ∵ updating ! $ nothing ! $ fjoin ! $ now ! $ done !), tt) (#self args) fn (compiled.unfolded 𝓤 H 𝓜 𝓡 wired (T, tt)) (λ z are.
    let Post : Val → SProp 𝓤 = (walk_of 𝓛 En stays c).post z in let a = z.0.3 in let vss = z.0.4 in let κ : Lft = z.0.0.0 in let q : Share = z.0.1.0 in let κT : Lft = z.0.0.1.0 in let qT : Share = z.0.1.1.0 in
    let α = named_lft 2 0 tt z.0.0 in
    let LR = param_laws 0 T L in
    let s : BandsMut T.Denot = a.0 in
    let p : BandSpacing = s.spacing in
    let xs : List T.Denot = s.cells.now in
    let It : RattleType = the_row α R in
    let Slice : RattleType = MutSlice (named 0) κ R in
    let Image : RattleType = img_row (named 0) κ R in
    let Row : RattleType = opt.the_row Image in
    let Li : RattleType = spacing_type.the_row in
    let Sh : RattleType = shape_type.the_row in
    let low : BandsMut T.Denot → Val = (iter_laws.lowers α R LR).lowered in
    let ok = (typed It (iter_laws.the_row_laws α R LR) (iter_laws.lowers α R LR) 𝓛 s vss.0 are.0).0 in
    let Tok : Item 𝓤 = ‵ (flft κ q) ⊛ ‵ (flft κT qT) ⊛ ‵ ftrue in
    let Out : Type 0 = Img (MutBor (List T.Denot)) in
    qed 𝓛 ((Tok ⊛ ‵ (owns (types_at ps z.0.0) a vss)) ∷ (raw (fact 𝓤 (κT ⊑ T.lives)) ⊛ raw (emp 𝓤)) ∷ []) ∵
    move ! (1 ∷ []) $ split ! $ heard ! (κT ⊑ T.lives) (λ le. drop ! $ split ! $ move ! (1 ∷ []) $ fsplit ! $ keep ! (0 ∷ 2 ∷ []) $
    -- [the iterator; the tokens]
    rewrite ! 0 (λ (vs : List Val). ‵ (It.own_val s vs)) ((iter_laws.lowers α R LR).val_is s vss.0 are.0) refl $
    regoal ! (λ (vs : List Val). prop (WpFn 𝓤 H 𝓣.C 𝓣.Λ fn vs Post)) (λ k. (iter_laws.lowers α R LR).val_is s vss.0 are.0 k ++ []) refl $
    enter ! 𝓣.C 𝓣.Λ fn (low s ∷ []) Post $
    alloc_all ! (λ l. pass_all ! refl (ok, tt) $
    sets ! (of_opd ! (get_in ! (fld ! refl (fld ! refl (fld ! refl (stop !)))) (sub ! 1 refl (sub ! 0 refl (sub ! 1 refl (whole !)))))) refl (tt, ok.1.1.0.0.1.0) $
    sets ! (bin ! (get ! refl) (lit ! tt) tt) refl (tt, tt) $
    first ! $ branches ! (get ! refl)
    (λ t. let none : p.rows.count ≡ 0 = eqb→eq p.rows.count 0 t in
    let no_band : Val = live 0 (of_list []) in
    let Steps₀ : Type 0 = YieldsFirstBy mut_layout bands_left s None s in
    let Moves₀ : Type 0 = Moves s None s in
    sets ! (agg ! (and_then ! (lit ! tt) (no_more !))) refl (tt, (record { fits = lit< tt }, tt)) $
    sets ! (of_opd ! (get ! refl)) refl ok $
    sets ! (agg ! (and_then ! (get ! refl) (and_then ! (get ! refl) (no_more !)))) refl (tt, ((record { fits = lit< tt }, tt), (ok.1, tt))) $
    returns_within ! Post refl (look_at ! 0 refl) $ free_all ! refl $
    use1 𝓛 (‵ ((Tuple (Row ∷ It ∷ [])).own_val (None, s) (pair_val no_band (low s) ∷ []))) (none_beside 𝓛 Image It s (low s)) $
    -- [the result; the tokens]
    use0 𝓛 (raw (fact 𝓤 Moves₀)) (fact_i 𝓤 Moves₀ (emp 𝓤) refl) $
    use0 𝓛 (raw (fact 𝓤 Steps₀)) (fact_i 𝓤 Steps₀ (emp 𝓤) (none_at s none)) $ join ! $ nothing ! $ join ! $
    nothing ! $ nothing ! $ fjoin ! $ move ! (3 ∷ 0 ∷ 2 ∷ 1 ∷ []) $
    by ! (leaves 𝓛 En stays c z (pair_val no_band (low s)) (None, s) ((tt, tt), tt) (tt, tt)))
    (λ t. let one : 0 < p.rows.count = one_at_least p.rows.count t in
    skips ! $ exec ! 𝓣.C 𝓣.Λ (env fn.locals l) (after 3 fn.body) (at_ret (env fn.locals l) Post) $
    sets ! (of_opd ! (get_in ! (fld ! refl (stop !)) (sub ! 1 refl (whole !)))) refl (tt, ok.1.1.0) $
    -- [the iterator; the tokens]
    let lies : Lies p.rows (length xs) = (s.some, s.holds_width, s.fits) in
    let k : ℕ = band_rows p in
    let tall : 0 < k = omega (arith, one, s.high) in
    let there : k ≤ p.rows.count = omega arith in
    let Some₀ : Type 0 = 0 < p.rows.count in
    let Positive : Type 0 = 1 ≤ p.rows.stride in
    let Holds : Type 0 = p.rows.width ≤ p.rows.stride in
    let Wide : Type 0 = p.rows.width < 2 ^ 32 in
    let Tall : Type 0 = p.rows.count < 2 ^ 32 in
    let High : Type 0 = 0 < p.band_height in
    let Reach : Type 0 = p.rows.skip + (p.rows.stride * (p.rows.count - 1) + p.rows.width) < 2 ^ 64 in
    let fit : length xs < 2 ^ 64 = ok.1.0.1.0.fits in
    let is_li = is_low Li spacing_laws.the_row_laws spacing_laws.lowers 𝓛 p _ are.0.1.1.1.0 in
    let GC = triple_of 𝓛 g.signature (g.spec 𝓛 𝓜.mem 𝓡.returns) in
    let zc : GC.Ghost = ((tt, tt, tt, (p, tt), (spacing_laws.lowered p ∷ [], tt)), tt) in
    nothing ! $ owned ! Li (Is Li) (row_Makes Li spacing_laws.the_row_plain 𝓛) p (spacing_laws.lowered p ∷ []) is_li $ join ! $ nothing ! $ join ! $
    use0 𝓛 (raw (fact 𝓤 Reach)) (fact_i 𝓤 Reach (emp 𝓤) (omega (arith, s.fits one, fit))) $
    use0 𝓛 (raw (fact 𝓤 High)) (fact_i 𝓤 High (emp 𝓤) s.high) $ join ! $
    use0 𝓛 (raw (fact 𝓤 Tall)) (fact_i 𝓤 Tall (emp 𝓤) s.rows_fit) $ join ! $
    use0 𝓛 (raw (fact 𝓤 Wide)) (fact_i 𝓤 Wide (emp 𝓤) s.width_bound) $ join ! $
    use0 𝓛 (raw (fact 𝓤 Holds)) (fact_i 𝓤 Holds (emp 𝓤) s.holds_width) $ join ! $
    use0 𝓛 (raw (fact 𝓤 Positive)) (fact_i 𝓤 Positive (emp 𝓤) s.stride_positive) $ join ! $
    use0 𝓛 (raw (fact 𝓤 Some₀)) (fact_i 𝓤 Some₀ (emp 𝓤) one) $ join ! $ move ! (1 ∷ 0 ∷ []) $ use2 𝓛 (raw (GC.pre zc)) (id⊢ 𝓤 _) $
    calls_at ! fm GC (counting.met 𝓤 𝓛 𝓜 𝓡 (compiled.calls-image_tiles::bands::BandSpacing::cut 𝓡.env wired)) zc (and_then ! (get ! refl) (no_more !)) (λ vc.
    let CutRow : RattleType = cut_type.the_row in
    let Outer : Cut → Type 0 = λ n. n.outer ≡ cut_end p in
    let Inner : Cut → Type 0 = λ n. n.inner ≡ p.rows.skip in
    let Width : Cut → Type 0 = λ n. n.shape.width ≡ p.rows.width in
    let Height : Cut → Type 0 = λ n. n.shape.height ≡ band_rows p in
    let Stride : Cut → Type 0 = λ n. n.shape.stride ≡ p.rows.stride in
    let Rest : Cut → Type 0 = λ n. n.rest ≡ behind p in
    use1 𝓛 (later (some (λ (n : Cut). (‵ ftrue ⊛ ‵ (CutRow.own_val n (vc ∷ []))) ⊛ some (λ (ws : Unit {0} × Unit {0}). ‵ (lasts g.ended zc.0.0 zc.0.3 ws)
    ⊛ (raw (fact 𝓤 (Outer n)) ⊛ raw (fact 𝓤 (Inner n)) ⊛ raw (fact 𝓤 (Width n)) ⊛ raw (fact 𝓤 (Height n)) ⊛ raw (fact 𝓤 (Stride n)) ⊛ raw (fact 𝓤 (Rest n))))))) (id⊢ 𝓤 _) $
    await ! tt $ pick ! (λ n. split ! $ split ! $ drop ! $ move ! (1 ∷ []) $ pick ! (λ wsc. split ! $ drop ! $
    split ! $ heard ! (Outer n) (λ is_outer. split ! $ heard ! (Inner n) (λ is_inner. split ! $ heard ! (Width n) (λ is_wide. split ! $ heard ! (Height n) (λ is_tall. split ! $ heard ! (Stride n) (λ is_apart. heard ! (Rest n) (λ is_rest.
    -- [the numbers; the iterator; the tokens]
    peeks ! CutRow (Is CutRow) (shows 𝓛 CutRow) n (vc ∷ []) (λ isc. drop ! $ let okc = (typed CutRow cut_laws.the_row_laws cut_laws.lowers 𝓛 n (vc ∷ []) isc).0 in
    lands_as ! (ap only (cut_laws.lowers.val_is n (vc ∷ []) isc)) refl okc $
    use1 𝓛 (‵ (Slice.own_val s.cells (lent_val s.cells ∷ []))) (cells_out α R LR 𝓛 s (low s ∷ [])) $
    sets ! (addr ! (from ! (fld ! refl (fld ! refl (hop ! (look_in_at ! 1 (sub ! 0 refl (sub ! 0 refl (whole !)))) (stop !)))))) refl (tt, tt) $
    sets ! (agg ! (and_then ! (get ! refl) (and_then ! (get_in ! (fld ! refl (fld ! refl (stop !))) (sub ! 1 refl (sub ! 0 refl (whole !)))) (no_more !)))) refl (tt, ok.1.0) $
    sets ! (agg ! (and_then ! (lit ! tt) (no_more !))) refl (tt, (record { fits = lit< tt }, tt)) $
    -- [the cells; the tokens]
    let Pair : Type 0 = MutBor (List T.Denot) × MutBor (List T.Denot) in
    let Two : RattleType = Tuple (Slice ∷ Slice ∷ []) in
    let EndRow : RattleType = end_type.the_row in
    let e : Val = end_laws.lowered First in
    let G = triple_of 𝓛 (f.signature T) (f.spec T 𝓛 𝓜.mem 𝓡.returns) in
    let z₁ : G.Ghost = (((κ, (κT, tt)), (q, (qT, tt)), z.0.2, (s.cells, (First, (n.outer, (n.inner, tt)))), (lent_val s.cells ∷ [], (e ∷ [], (vint w64 n.outer ∷ [], (vint w64 n.inner ∷ [], tt))))), tt) in
    let Below : Type 0 = n.outer ≤ length xs in
    let Within : Type 0 = n.inner ≤ length (take n.outer xs) in
    nothing ! $ owned ! usize (Is usize) (uint_Makes 𝓛 w64) n.inner (vint w64 n.inner ∷ []) (refl, okc.1.1.0.fits) $ join ! $
    owned ! usize (Is usize) (uint_Makes 𝓛 w64) n.outer (vint w64 n.outer ∷ []) (refl, okc.1.0.fits) $ join ! $
    owned ! EndRow (Is EndRow) (row_Makes EndRow end_laws.the_row_plain 𝓛) First (e ∷ []) ([], (refl, (tt, (refl, tt)))) $ join ! $ move ! (1 ∷ 0 ∷ []) $ join ! $ move ! (1 ∷ 0 ∷ []) $ join ! $
    use0 𝓛 (raw (fact 𝓤 Within)) (fact_i 𝓤 Within (emp 𝓤) (rw (is_outer, is_inner) (inner_within p.rows k xs lies tall there First))) $ use0 𝓛 (raw (fact 𝓤 Below)) (fact_i 𝓤 Below (emp 𝓤) (omega (arith, is_outer, outer_within p.rows k xs lies tall there First))) $ join ! $
    use0 𝓛 (raw (fact 𝓤 (κT ⊑ T.lives))) (fact_i 𝓤 (κT ⊑ T.lives) (emp 𝓤) le) $ join ! $ move ! (1 ∷ 0 ∷ []) $ use2 𝓛 (raw (G.pre z₁)) (id⊢ 𝓤 _) $
    calls_at ! fm G (parting.met 𝓤 𝓛 𝓜 𝓡 (compiled.calls-image_rows::cut_out 𝓡.env wired) T L) z₁ (and_then ! (get ! refl) (and_then ! (get ! refl) (and_then ! (get_in ! (fld ! refl (stop !)) (sub ! 0 refl (whole !))) (and_then ! (get_in ! (fld ! refl (stop !)) (sub ! 1 refl (whole !))) (no_more !))))) (λ v.
    use1 𝓛 (later (some (λ (r : Pair). (Tok ⊛ ‵ (Two.own_val r (v ∷ []))) ⊛ some (λ (ws : Unit {0} × (Unit {0} × (Unit {0} × (Unit {0} × Unit {0})))). ‵ (lasts (f.ended T) z₁.0.0 z₁.0.3 ws)
    ⊛ (‵ (follows_both (Array R 0) (Array R 0) (Array R 0) s.cells.ghost_name r.0.ghost_name r.1.ghost_name (λ w ws. (take n.inner (take n.outer xs) ++ w) ++ ws)) ⊛ raw (fact 𝓤 (r.0.now ≡ drop_list n.inner (take n.outer xs))) ⊛ raw (fact 𝓤 (r.1.now ≡ drop_list n.outer xs))))))) (id⊢ 𝓤 _) $
    await ! tt $ pick ! (λ r. split ! $ split ! $ move ! (2 ∷ []) $ pick ! (λ ws. split ! $ drop ! $ split ! $ move ! (1 ∷ []) $ split ! $ heard ! (r.0.now ≡ drop_list n.inner (take n.outer xs)) (λ is_band. heard ! (r.1.now ≡ drop_list n.outer xs) (λ is_kept.
    -- [what follows; the tokens; the band's cells and what is kept]
    move ! (2 ∷ []) $ peeks ! Two (Is Two) (shows 𝓛 Two) r (v ∷ []) (λ is. let both = slices_told κ R r v is in
    lands_as ! (ap only both.0) refl (tt, (both.1, (both.2, tt))) $
    use1 𝓛 (‵ (Slice.own_val r.0 (lent_val r.0 ∷ [])) ⊛ ‵ (Slice.own_val r.1 (lent_val r.1 ∷ []))) (slices_out κ R r v 𝓛) $ split ! $
    -- [the band's cells; what is kept; what follows; the tokens]
    move ! (2 ∷ 0 ∷ 3 ∷ 1 ∷ []) $
    -- [what follows; the band's cells; the tokens; what is kept]
    rewrite ! 0 (λ (us : List T.Denot). ‵ (follows_both (Array R 0) (Array R 0) (Array R 0) s.cells.ghost_name r.0.ghost_name r.1.ghost_name (λ w ws. (us ++ w) ++ ws))) (rw (is_outer, is_inner) (gone_first p.rows k xs lies tall there)) refl $
    sets ! (of_opd ! (get_in ! (fld ! refl (stop !)) (sub ! 0 refl (whole !)))) refl (tt, both.1) $
    sets ! (of_opd ! (get_in ! (fld ! refl (stop !)) (sub ! 1 refl (whole !)))) refl (tt, both.2) $
    let okr = okc.1.1.1.1.0 in
    sets ! (addr ! (from ! (fld ! refl (hop ! (look_in_at ! 3 (sub ! 0 refl (whole !))) (stop !))))) refl (tt, tt) $
    sets ! (agg ! (and_then ! (get ! refl) (and_then ! (get_in ! (fld ! refl (stop !)) (sub ! 1 refl (whole !))) (no_more !)))) refl (tt, both.1) $
    sets ! (of_opd ! (get_in ! (fld ! refl (stop !)) (sub ! 2 refl (whole !)))) refl (tt, okc.1.1.1.0) $
    -- the image of the band's cells
    let X : RattleType = LentCells κ T in
    let lives : κ ⊑ X.lives = ⊑_meet κ κ T.lives (⊑_refl κ) (⊑_trans κ κT T.lives z.0.2.0 le) in
    let GM = triple_of 𝓛 (h.signature X) (h.spec X 𝓛 𝓜.mem 𝓡.returns) in
    let zm : GM.Ghost = (((κ, tt), (q, tt), tt, (r.0, (n.shape, tt)), (lent_val r.0 ∷ [], (shape_laws.lowered n.shape ∷ [], tt))), tt) in
    let is_shape = is_low Sh shape_laws.the_row_laws shape_laws.lowers 𝓛 n.shape _ isc.1.1.1.1.0 in
    move ! (2 ∷ []) $ split3 ! $
    -- [the token of κ; the token of κT; nothing; what follows; the band's cells; what is kept]
    nothing ! $ owned ! Sh (Is Sh) (row_Makes Sh shape_laws.the_row_plain 𝓛) n.shape (shape_laws.lowered n.shape ∷ []) is_shape $ join ! $ move ! (5 ∷ 0 ∷ []) $ join ! $
    nothing ! $ move ! (2 ∷ 0 ∷ []) $ join ! $ join ! $
    -- [the token of κ and the arguments; the token of κT; nothing; what follows; what is kept]
    nothing ! $ use0 𝓛 (raw (fact 𝓤 (κ ⊑ X.lives))) (fact_i 𝓤 (κ ⊑ X.lives) (emp 𝓤) lives) $ join ! $ move ! (1 ∷ 0 ∷ []) $ use2 𝓛 (raw (GM.pre zm)) (id⊢ 𝓤 _) $
    calls_at ! fm GM (making.met 𝓤 𝓛 𝓜 𝓡 (compiled.calls-imgref::img::Img::from_parts 𝓡.env wired) X (lent_cells_laws κ T L)) zm (and_then ! (get ! refl) (and_then ! (get ! refl) (no_more !))) (λ vm.
    use1 𝓛 (later (some (λ (b : Out). ((‵ (flft κ q) ⊛ ‵ ftrue) ⊛ ‵ (Image.own_val b (vm ∷ []))) ⊛ some (λ (us : Unit {0} × (Unit {0} × Unit {0})). ‵ (lasts (h.ended X) zm.0.0 zm.0.3 us)
    ⊛ (raw (fact 𝓤 (b.buf ≡ r.0)) ⊛ raw (fact 𝓤 (shape_of b ≡ n.shape)) ⊛ raw (fact 𝓤 (b.width ≡ n.shape.width)) ⊛ raw (fact 𝓤 (b.height ≡ n.shape.height)) ⊛ raw (fact 𝓤 (b.stride ≡ n.shape.stride))))))) (id⊢ 𝓤 _) $
    await ! tt $ pick ! (λ b. split ! $ split ! $ move ! (2 ∷ []) $ pick ! (λ us. split ! $ drop ! $ split ! $ heard ! (b.buf ≡ r.0) (λ same. split ! $ drop ! $
    split ! $ heard ! (b.width ≡ n.shape.width) (λ as_wide. split ! $ heard ! (b.height ≡ n.shape.height) (λ as_tall. heard ! (b.stride ≡ n.shape.stride) (λ as_apart.
    -- [the token of κ with nothing; the image; the token of κT; nothing; what follows; what is kept]
    move ! (1 ∷ []) $ peeks ! Image (Is Image) (shows 𝓛 Image) b (vm ∷ []) (λ isb. let tb = img_told (named 0) κ R b (vm ∷ []) isb in
    let band_word : Val = img_val b.buf.ref_ptr (length b.buf.now) (shape_of b) in
    let band_ok : WT band_word = ((tt, (record { fits = tb.1.0 }, tt)), (record { fits = tb.2 }, (record { fits = tb.3 }, (record { fits = tb.4 }, tt)))) in
    rewrite ! 0 (λ (vs : List Val). ‵ (Image.own_val b vs)) (tb.0) refl $
    lands_as ! (ap only (tb.0)) refl (tt, band_ok) $
    -- [the image; the token of κ with nothing; the token of κT; nothing; what follows; what is kept]
    sets ! (addr ! (from ! (fld ! refl (hop ! (look_in_at ! 4 (sub ! 0 refl (whole !))) (stop !))))) refl (tt, tt) $
    sets ! (agg ! (and_then ! (get ! refl) (and_then ! (get_in ! (fld ! refl (stop !)) (sub ! 1 refl (whole !))) (no_more !)))) refl (tt, both.2) $
    sets ! (of_opd ! (get_in ! (fld ! refl (stop !)) (sub ! 3 refl (whole !)))) refl (tt, okr) $
    sets ! (agg ! (and_then ! (get ! refl) (and_then ! (get ! refl) (no_more !)))) refl (tt, (both.2, (okr, tt))) $
    sets ! (of_opd ! (get ! refl)) refl (tt, band_ok) $
    sets ! (agg ! (and_then ! (lit ! tt) (and_then ! (get ! refl) (no_more !)))) refl (tt, (record { fits = lit< tt }, (band_ok, tt))) $
    sets ! (of_opd ! (get ! refl)) refl (tt, (both.2, (okr, tt))) $
    sets ! (agg ! (and_then ! (get ! refl) (and_then ! (get ! refl) (no_more !)))) refl (tt, ((record { fits = lit< tt }, (band_ok, tt)), ((both.2, (okr, tt)), tt))) $
    returns ! (look_at ! 0 refl) $ free_all ! refl $
    let rest : Lies n.rest.rows (length r.1.now) = rw (is_rest, is_kept, is_outer) (rest_lies p.rows k xs lies tall there First) in
    let left : BandsMut T.Denot = record { cells = r.1; spacing = n.rest; some = rest.0; stride_positive = rw is_rest s.stride_positive; holds_width = rest.1; width_bound = rw is_rest s.width_bound; rows_fit = rw is_rest (omega (arith, s.rows_fit)); high = rw is_rest s.high; fits = rest.2 } in
    let some_band : Val = live 1 (of_list (band_word ∷ [])) in
    let word : Val = pair_val some_band (low left) in
    let band_is : b.buf.now ≡ drop_list p.rows.skip (take (cut_end p) xs) = ap (λ (u : MutBor (List T.Denot)). u.now) same ∙ rw (is_band, is_outer, is_inner) refl in
    let kept_is : r.1.now ≡ drop_list (cut_end p) xs = rw (is_kept, is_outer) refl in
    let Steps : Type 0 = YieldsFirstBy mut_layout bands_left s (Some b) left in
    let steps : Steps = given s left b one band_is (as_wide ∙ is_wide) (as_tall ∙ is_tall) (as_apart ∙ is_apart) kept_is is_rest in
    let Moved : Type 0 = Moves s (Some b) left in
    let moved : Moved = (whole_is First (cut_end p) p.rows.skip xs (take (cut_end p) xs) (take p.rows.skip xs) b.buf.now r.1.now refl kept_is (sym (gone_first p.rows k xs lies tall there)) band_is, is_rest) in
    -- [the image; the token of κ with nothing; the token of κT; nothing; what follows; what is kept]
    move ! (4 ∷ []) $ rewrite ! 0 (λ (m : GName). ‵ (follows_both (Array R 0) (Array R 0) (Array R 0) s.cells.ghost_name m r.1.ghost_name (put_back s))) (ap (λ (u : MutBor (List T.Denot)). u.ghost_name) (sym same)) refl $
    move ! (1 ∷ []) $ use1 𝓛 (‵ (Row.own_val (Some b) (some_band ∷ []))) (Some-of 𝓛 Image b band_word) $
    -- [the answer; what follows; the token of κ with nothing; the token of κT; nothing; what is kept]
    move ! (5 ∷ []) $ use1 𝓛 (‵ (It.own_val left (low left ∷ []))) (cells_in α R LR 𝓛 left (is_low Li spacing_laws.the_row_laws spacing_laws.lowers 𝓛 n.rest _ isc.1.1.1.1.1.0)) $
    move ! (1 ∷ 0 ∷ []) $ use2 𝓛 (‵ ((Tuple (Row ∷ It ∷ [])).own_val (Some b, left) (word ∷ []))) (pair_made Row It (Some b) left some_band (low left) 𝓛) $
    -- [the result; what follows; the token of κ with nothing; the token of κT; nothing]
    use0 𝓛 (raw (fact 𝓤 Moved)) (fact_i 𝓤 Moved (emp 𝓤) moved) $ use0 𝓛 (raw (fact 𝓤 Steps)) (fact_i 𝓤 Steps (emp 𝓤) steps) $ join ! $ move ! (2 ∷ 0 ∷ []) $ join ! $
    -- [the ensures; the result; the token of κ with nothing; the token of κT; nothing]
    move ! (2 ∷ []) $ split ! $ move ! (4 ∷ 1 ∷ []) $ join ! $ move ! (1 ∷ 0 ∷ []) $ join ! $ move ! (3 ∷ []) $ drop ! $
    -- [the tokens; the ensures; the result]
    nothing ! $ nothing ! $ fjoin ! $
    move ! (1 ∷ 0 ∷ 3 ∷ 2 ∷ []) $ by ! (leaves 𝓛 En stays c z word (Some b, left) ((tt, tt), tt) (tt, tt))))))))))))))))))))))))))))))
