-- `step` takes the iterator out of its place, parts a band off and puts the others back: its MIR, proved by hand. Assumes `Logic`.
use Rattle.std.proofs.Common.{⊎_elim, ◌≡◌, refl, sym, ap, ℕ, List, [], ◌∷◌, lit<, MutBor, Option, Some, None}
use Rattle.std.proofs.alloc.Shapes.{after}
use Rattle.std.specs.Iterator.{YieldsFirstBy}
use Rattle.std.specs.contracts.option.Option as opt
use Rattle.borrow_laws.proofs.Walking.{Lft, GName, Share, ftrue, flft, full_share, SProp, emp, id⊢, ◌⊑◌, ⊑_trans, meet_⊑_right, fact, fact_i, tables, inst_fn, Args, Fn, named, Val, WT, vptr, of_list, alloc_all, pass_all, free_all, look_at, get, get_in, through, sets, lands_as, env, holding, forget_but, Sq, ‵, ◌⊛◌, raw, later, some, at_ret, runs, ◌$◌, ◌∵◌, !, qed, by, move, keep, drop, split, split3, join, fsplit, fsplit3, fjoin, fjoin3, feq_i, rewrite, use0, use1, use2, use3, await, pick, live, whole, sub, stop, fld, addr, of_opd, and_then, no_more, assigns, store_raw, returns, enter, shows, Is, Typed, cell_at, param, param_laws, RattleType, owns, mut_vals, mut_Tells, plain, named_lft, types_at, nothing, heard, peeks, facts, opens, closes, only, Tuple, calls_at, lasts, triple_of, framed, Stays, stay_ref, walk_of, Goes-ref, proved, leaves}
use Rattle.borrow_laws.proofs.Bodies.{of_one}
use Rattle.borrow_laws.proofs.Declared.{typed}
use Rattle.borrow_laws.proofs.Lifetimes.{Loan, Kept, lent, lends, ends}
use Rattle.borrow_laws.proofs.Options.{none_or_some, none_told}
use Rattle.borrow_laws.proofs.Pairs.{pair_told, pair_out}
use Rattle.image_tiles.specs.Bands.{bands_left, hands_on, Moves}
use Rattle.imgref.specs.declared.img.Img.{Img}
use Rattle.imgref.specs.Image.{mut_layout}
use Rattle.imgref.proofs.ImageValues.{img_row}
use Rattle.image_tiles.specs.declared.bands.BandsMut.{BandsMut}
use Rattle.image_tiles.specs.contracts.bands.BandsMut.{the_row}
use Rattle.image_tiles.proofs.bands.BandsMut.TheLaws as laws
use Rattle.image_tiles.proofs.BandValues.{band_val, band_ok, band_told}
use Rattle.image_tiles.specs.contracts.bands.BandsMut.take as K
use Rattle.image_tiles.proofs.bands.BandsMut.take.Met as taking
use Rattle.image_tiles.specs.contracts.bands.BandsMut.split_first as N
use Rattle.image_tiles.proofs.bands.BandsMut.split_first.Met as parting
use Rattle.image_tiles.specs.contracts.bands.BandsMut.step.{ended, clauses}
use Rattle.image_tiles.specs.contracts.bands.BandsMut.step.Key.{name as #self}
use Rattle.image_tiles.proofs.bands.BandsMut.step.Statement.{statement}
use Rattle.image_tiles.proofs.bands.BandsMut.step.Code as compiled

pub step_spec : {M : Type 1} → statement M
step_spec 𝓤 𝓛 𝓜 𝓡 wired T' L =
    let H = 𝓛.H in let 𝓣 = tables 𝓤 H 𝓜 𝓡 𝓡.env in let fm = framed 𝓤 H 𝓜 𝓣 in
    let args : Args = of_one T' in let fn : Fn = inst_fn args compiled.function in let R : RattleType = param 0 T' in
    let En = ended T' in let c = clauses T' 𝓛 𝓜.mem 𝓡.returns in let hs : Stays En.signature.params En.kept = (stay_ref (0 ∷ []) tt (plain (λ κs. the_row (named_lft 3 1 tt κs) R)), tt) in
    proved 𝓛 En hs c 𝓜 𝓡 (Goes-ref 𝓛 3 0 tt (plain (λ κs. the_row (named_lft 3 1 tt κs) R)), tt) (#self args) fn (compiled.unfolded 𝓤 H 𝓜 𝓡 wired (T', tt))
    (λ κs. (mut_vals, tt)) (λ κs. (mut_Tells (named 0) κs.0 (the_row (named_lft 3 1 tt κs) R), tt)) (λ κs qs bounds a gg are.
    let κ₀ : Lft = κs.0 in let κ₁ : Lft = κs.1.0 in let κ₂ : Lft = κs.1.1.0 in let q₀ : Share = qs.0 in let q₁ : Share = qs.1.0 in let q₂ : Share = qs.1.1.0 in
    let x : MutBor (BandsMut T'.Denot) = a.0 in let h : BandsMut T'.Denot = x.now in
    let b : ℕ = x.ref_ptr.0 in let o : ℕ = x.ref_ptr.1 in let γ : GName = x.ghost_name in
    let named_κ₁ = named_lft 3 1 tt κs in let It : RattleType = the_row named_κ₁ R in
    let Sort : Type 0 = BandsMut T'.Denot in
    let LR = param_laws 0 T' L in
    let lowers = laws.lowers named_κ₁ R LR in
    let word : Sort → Val = lowers.lowered in
    let told : (s : Sort) (vs : List Val) → Is It s vs → vs ≡ word s ∷ [] = lowers.val_is in
    let fit : (s : Sort) (vs : List Val) → Is It s vs → _ = λ s vs is. (typed It (laws.the_row_laws named_κ₁ R LR) lowers 𝓛 s vs is).0 in
    let y : (walk_of 𝓛 En hs c).Ghost = ((κs, qs, bounds, a, (mut_vals x, tt)), gg) in
    let Post : Val → SProp 𝓤 = (walk_of 𝓛 En hs c).post y in
    qed 𝓛 (((‵ (flft κ₀ q₀) ⊛ ‵ (flft κ₁ q₁) ⊛ ‵ (flft κ₂ q₂) ⊛ ‵ ftrue) ⊛ ‵ (owns (types_at En.signature.params κs) a y.0.4)) ∷ (raw (fact 𝓤 (κ₂ ⊑ T'.lives)) ⊛ raw (emp 𝓤)) ∷ []) ∵
    move ! (1 ∷ []) $ split ! $ heard ! (κ₂ ⊑ T'.lives) (λ le. drop ! $ split ! $ move ! (1 ∷ []) $ fsplit ! $ keep ! (0 ∷ 2 ∷ []) $
    -- [self; the tokens]
    enter ! 𝓣.C 𝓣.Λ fn (vptr b o ∷ []) Post $ alloc_all ! (λ l. pass_all ! refl ((tt, tt), tt) $
    sets ! (addr ! (through ! refl (stop !))) refl (tt, tt) $
    move ! (1 ∷ []) $ split3 ! $ move ! (2 ∷ []) $ split ! $ move ! (1 ∷ []) $ drop ! $ move ! (1 ∷ 3 ∷ []) $
    use2 𝓛 (later (some (λ (d : Loan). ‵ (lent It b o (d.0 ∷ κ₀) d.2 h) ⊛ ‵ (flft (d.0 ∷ κ₀) d.1) ⊛ raw (Kept 𝓛 It κ₀ q₀ b o γ h d)))) (lends 𝓛 It κ₀ q₀ b o γ h) $ await ! tt $ pick ! (λ d. split3 ! $
    let α : Lft = d.0 ∷ κ₀ in let qα : Share = d.1 in let δ : GName = d.2 in let below : α ⊑ κ₁ = ⊑_trans α κ₀ κ₁ (meet_⊑_right (d.0 ∷ []) κ₀) bounds.0 in let above : κ₁ ⊑ κ₂ = bounds.1.1.0 in
    -- [the borrow; α; what is kept; κ₂; κ₁]
    let G₁ = triple_of 𝓛 (K.signature T') (K.spec T' 𝓛 𝓜.mem 𝓡.returns) in
    let x₁ : MutBor Sort = record { ref_ptr = (b, o); ghost_name = δ; now = h } in
    let z₁ : G₁.Ghost = (((α, (κ₁, (κ₂, tt))), (qα, (q₁, (q₂, tt))), (below, (⊑_trans α κ₁ κ₂ below above, (above, tt))), (x₁, tt), (mut_vals x₁, tt)), tt) in
    nothing ! $ move ! (1 ∷ 0 ∷ []) $ join ! $ nothing ! $ move ! (4 ∷ 0 ∷ []) $ join ! $ move ! (4 ∷ 0 ∷ []) $ join ! $ move ! (2 ∷ 0 ∷ []) $ join ! $ join ! $
    nothing ! $ use0 𝓛 (raw (fact 𝓤 (κ₂ ⊑ T'.lives))) (fact_i 𝓤 (κ₂ ⊑ T'.lives) (emp 𝓤) le) $ join ! $ move ! (1 ∷ 0 ∷ []) $ use2 𝓛 (raw (G₁.pre z₁)) (id⊢ 𝓤 _) $
    -- [what the call asks; what is kept]
    calls_at ! fm G₁ (taking.met 𝓤 𝓛 𝓜 𝓡 (compiled.calls-image_tiles::bands::BandsMut::take 𝓡.env wired) T' L) z₁ (and_then ! (get ! refl) (no_more !)) (λ v₁.
    use1 𝓛 (later (some (λ (r : Sort). ((‵ (flft α qα) ⊛ ‵ (flft κ₁ q₁) ⊛ ‵ (flft κ₂ q₂) ⊛ ‵ ftrue) ⊛ ‵ (It.own_val r (v₁ ∷ []))) ⊛ some (λ (ws : Sort × Unit {0}). ‵ (lasts (K.ended T') z₁.0.0 z₁.0.3 ws) ⊛ raw (fact 𝓤 (r ≡ h)))))) (id⊢ 𝓤 _) $
    await ! tt $ pick ! (λ r. split ! $ split ! $ move ! (2 ∷ []) $ pick ! (λ ws₁. let n : Sort = ws₁.0 in split ! $ fsplit ! $ fsplit ! $ move ! (3 ∷ []) $ heard ! (r ≡ h) (λ same.
    -- [how the place ends; its borrow; nothing; the tokens; the bands; what is kept]
    move ! (3 ∷ []) $ split3 ! $ move ! (2 ∷ []) $ split ! $ move ! (1 ∷ []) $ drop ! $
    -- [κ₂; α; κ₁; how the place ends; its borrow; nothing; the bands; what is kept]
    move ! (1 ∷ 7 ∷ 3 ∷ []) $ use3 𝓛 (later (‵ (flft κ₀ q₀) ⊛ ‵ (lent It b o κ₀ γ n))) (ends 𝓛 It κ₀ q₀ b o γ h d n) $ await ! tt $ split ! $ move ! (4 ∷ 5 ∷ []) $ drop ! $ drop ! $
    -- [κ₀; self; κ₂; κ₁; the bands]
    move ! (4 ∷ []) $ rewrite ! 0 (λ (s : Sort). ‵ (It.own_val s (v₁ ∷ []))) same refl $
    peeks ! It (Is It) (shows 𝓛 It) h (v₁ ∷ []) (λ is₁. let t₁ = told h (v₁ ∷ []) is₁ in
    rewrite ! 0 (λ (us : List Val). ‵ (It.own_val h us)) t₁ refl $
    lands_as ! (ap only t₁) refl (fit h (v₁ ∷ []) is₁) $
    let G₂ = triple_of 𝓛 (N.signature T') (N.spec T' 𝓛 𝓜.mem 𝓡.returns) in
    let z₂ : G₂.Ghost = (((κ₁, (κ₂, tt)), (q₁, (q₂, tt)), (above, tt), (h, tt), (word h ∷ [], tt)), tt) in
    nothing ! $ move ! (1 ∷ 0 ∷ []) $ join ! $
    nothing ! $ move ! (4 ∷ 0 ∷ []) $ join ! $ move ! (4 ∷ 0 ∷ []) $ join ! $ join ! $
    nothing ! $ use0 𝓛 (raw (fact 𝓤 (κ₂ ⊑ T'.lives))) (fact_i 𝓤 (κ₂ ⊑ T'.lives) (emp 𝓤) le) $ join ! $ move ! (1 ∷ 0 ∷ []) $ use2 𝓛 (raw (G₂.pre z₂)) (id⊢ 𝓤 _) $
    -- [what the call asks; κ₀; self]
    calls_at ! fm G₂ (parting.met 𝓤 𝓛 𝓜 𝓡 (compiled.calls-image_tiles::bands::BandsMut::split_first 𝓡.env wired) T' L) z₂ (and_then ! (get ! refl) (no_more !)) (λ v₂.
    let Image : RattleType = img_row (named 1) κ₁ R in
    let Row : RattleType = opt.the_row Image in
    let Two : RattleType = Tuple (Row ∷ It ∷ []) in
    let Out : Type 0 = Img (MutBor (List T'.Denot)) in
    let Given : Type 0 = Option Out in
    use1 𝓛 (later (some (λ (out : Given × Sort). ((‵ (flft κ₁ q₁) ⊛ ‵ (flft κ₂ q₂) ⊛ ‵ ftrue) ⊛ ‵ (Two.own_val out (v₂ ∷ []))) ⊛ some (λ (ws : (Unit {0} × Unit {0}) × Unit {0}). ‵ (lasts (N.ended T') z₂.0.0 z₂.0.3 ws)
    ⊛ (‵ (hands_on R h out.0 out.1) ⊛ raw (fact 𝓤 (YieldsFirstBy mut_layout bands_left h out.0 out.1)) ⊛ raw (fact 𝓤 (Moves h out.0 out.1))))))) (id⊢ 𝓤 _) $
    await ! tt $ pick ! (λ out. let m : Given = out.0 in let t : Sort = out.1 in split ! $ split ! $ move ! (2 ∷ []) $ pick ! (λ ws₂. split ! $ drop ! $ split ! $ move ! (1 ∷ []) $ split ! $
    heard ! (YieldsFirstBy mut_layout bands_left h m t) (λ steps. heard ! (Moves h m t) (λ moved.
    -- [what follows the band; the tokens; the band and the iterator; κ₀; self]
    let E = env fn.locals l in
    -- the iterator goes back to its place, and the band is handed out
    let tail : (v : Val) → Typed Row.mir (v ∷ []) → Typed It.mir (word t ∷ []) → Sq 𝓛 (‵ (Row.own_val m (v ∷ [])) ∷ ‵ (It.own_val t (word t ∷ [])) ∷ ‵ (hands_on R h m t) ∷ (‵ (flft κ₁ q₁) ⊛ ‵ (flft κ₂ q₂) ⊛ ‵ ftrue)
    ∷ ‵ (flft κ₀ q₀) ∷ ‵ (lent It b o κ₀ γ n) ∷ holding 𝓛 E ((1, vptr b o) ∷ (2, v) ∷ (3, word t) ∷ [])) (runs 𝓣.C 𝓣.Λ E (after 5 fn.body) (at_ret E Post)) = λ v band_is_ok t_ok.
    sets ! (of_opd ! (get ! refl)) refl t_ok.0 $
    move ! (5 ∷ 4 ∷ []) $ fsplit3 ! $ drop ! $ move ! (0 ∷ 1 ∷ 2 ∷ []) $ opens ! tt It {h = n} b o (λ us. move ! (1 ∷ []) $ facts ! It (Is It) (shows 𝓛 It) n us (λ is.
    rewrite ! 0 (λ (vs : List Val). ‵ (cell_at full_share It.mir vs b o)) (told n us is) refl $
    assigns ! (of_opd ! (get ! refl)) (through ! refl (stop !)) (store_raw ! 0 refl t_ok.0) $
    -- [the cell; the open borrow; obs; auth; the band; the iterator; what follows the band; the tokens]
    move ! (0 ∷ 5 ∷ 1 ∷ 2 ∷ 3 ∷ []) $ closes ! tt It t (word t ∷ []) b o $
    sets ! (of_opd ! (get ! refl)) refl band_is_ok.0 $ returns ! (look_at ! 0 refl) $ free_all ! refl $
    -- [obs; the borrow; κ₀; the band; what follows the band; the tokens]
    move ! (2 ∷ 5 ∷ []) $ join ! $ move ! (1 ∷ 2 ∷ []) $ feq_i ! (List Val) (vptr b o ∷ []) (vptr b o ∷ []) refl $ fjoin3 ! $ nothing ! $ move ! (1 ∷ 0 ∷ []) $ fjoin ! $
    -- [self; the tokens; the band; what follows the band]
    use0 𝓛 (raw (fact 𝓤 (Moves h m t))) (fact_i 𝓤 (Moves h m t) (emp 𝓤) moved) $ use0 𝓛 (raw (fact 𝓤 (YieldsFirstBy mut_layout bands_left h m t))) (fact_i 𝓤 (YieldsFirstBy mut_layout bands_left h m t) (emp 𝓤) steps) $ join ! $ move ! (4 ∷ 0 ∷ []) $ join ! $
    move ! (2 ∷ 1 ∷ 3 ∷ 0 ∷ []) $ by ! (leaves 𝓛 En hs c y v m (t, tt) (tt, tt)))) in
    move ! (2 ∷ []) $
    ⊎_elim
    (λ (none : m ≡ None).
    let no_band : Val = live 0 (of_list []) in
    rewrite ! 0 (λ (m' : Given). ‵ (Two.own_val (m', t) (v₂ ∷ []))) none refl $
    peeks ! Two (Is Two) (shows 𝓛 Two) (None, t) (v₂ ∷ []) (λ is. let fit_t = fit t _ is.1.1.1.0 in
    lands_as ! (ap only (pair_told Row It None t no_band (word t) (none_told Image) (told t) (v₂ ∷ []) is)) refl (tt, ((record { fits = lit< tt }, tt), (fit_t.1, tt))) $
    sets ! (of_opd ! (get_in ! (fld ! refl (stop !)) (sub ! 0 refl (whole !)))) refl (tt, (record { fits = lit< tt }, tt)) $
    sets ! (of_opd ! (get_in ! (fld ! refl (stop !)) (sub ! 1 refl (whole !)))) refl fit_t $
    use1 𝓛 (‵ (Row.own_val None (no_band ∷ [])) ⊛ ‵ (It.own_val t (word t ∷ []))) (pair_out Row It None t no_band (word t) (none_told Image) (told t) (v₂ ∷ []) 𝓛) $ split ! $
    rewrite ! 0 (λ (m' : Given). ‵ (Row.own_val m' (no_band ∷ []))) (sym none) refl $
    forget_but ! E (1 ∷ 2 ∷ 3 ∷ []) refl $ tail no_band ((tt, (record { fits = lit< tt }, tt)), tt) (fit_t, tt)))
    (λ (found : (w : Out) × (m ≡ Some w)). let w : Out = found.0 in let is_some : m ≡ Some w = found.1 in
    let some_band : Val = live 1 (of_list (band_val w ∷ [])) in
    rewrite ! 0 (λ (m' : Given). ‵ (Two.own_val (m', t) (v₂ ∷ []))) is_some refl $
    peeks ! Two (Is Two) (shows 𝓛 Two) (Some w, t) (v₂ ∷ []) (λ is. let fit_t = fit t _ is.1.1.1.0 in
    let band_is_ok : WT (band_val w) = band_ok (named 1) κ₁ R w _ is.1.1.0.1.1.1.1.0 in
    lands_as ! (ap only (pair_told Row It (Some w) t some_band (word t) (band_told (named 1) κ₁ R w) (told t) (v₂ ∷ []) is)) refl (tt, ((record { fits = lit< tt }, (band_is_ok, tt)), (fit_t.1, tt))) $
    sets ! (of_opd ! (get_in ! (fld ! refl (stop !)) (sub ! 0 refl (whole !)))) refl (tt, (record { fits = lit< tt }, (band_is_ok, tt))) $
    sets ! (of_opd ! (get_in ! (fld ! refl (stop !)) (sub ! 1 refl (whole !)))) refl fit_t $
    use1 𝓛 (‵ (Row.own_val (Some w) (some_band ∷ [])) ⊛ ‵ (It.own_val t (word t ∷ []))) (pair_out Row It (Some w) t some_band (word t) (band_told (named 1) κ₁ R w) (told t) (v₂ ∷ []) 𝓛) $ split ! $
    rewrite ! 0 (λ (m' : Given). ‵ (Row.own_val m' (some_band ∷ []))) (sym is_some) refl $
    forget_but ! E (1 ∷ 2 ∷ 3 ∷ []) refl $ tail some_band ((tt, (record { fits = lit< tt }, (band_is_ok, tt))), tt) (fit_t, tt)))
    (none_or_some m)))))))))))))))
