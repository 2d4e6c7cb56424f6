-- `from_stretch` lends a stretch of the cells on, and the cells follow it: its MIR, proved by hand.
use Rattle.std.proofs.Common.{◌≡◌, refl, sym, ap, subst, ◌∙◌, ℕ, ◌+◌, ◌-◌, ◌*◌, ◌^◌, ◌<◌, ◌≤◌, mul-le-mul_right, arith, List, [], ◌∷◌, ◌++◌, length, take, drop as drop_list, length-drop, w64, MutBor}
use Rattle.borrow_laws.proofs.Walking.{SProp, emp, id⊢, Lft, GName, Share, ftrue, flft, Args, Fn, named, inst_fn, Val, vint, size, WpFn, ◌⊑◌, ⊑_refl, ⊑_trans, ⊑_meet, fact, fact_i, tables, Item, ‵, ◌⊛◌, raw, later, some, prop, ◌$◌, ◌∵◌, !, qed, by, move, keep, drop, split, split3, join, fsplit, fjoin, rewrite, regoal, use0, use1, use2, await, pick, updating, now, done, whole, sub, agg, stop, fld, addr, bin, size_word, and_then, no_more, returns, enter, alloc_all, pass_all, free_all, look_at, get, get_in, through, is, sets, lands_as, Array, follows, shows, Is, param, layout, RattleType, owns, MutSlice, Room, slice_val, types_at, nothing, heard, peeks, only, usize, calls_at, lasts, triple_of, framed, Stays, stay_dropped, walk_of, at, at_mul, length-take-le, proved_at, leaves}
use Rattle.borrow_laws.proofs.Bodies.{of_one}
use Rattle.borrow_laws.proofs.Stretches.{uncapped, cut_at, part_lent, lends_part}
use Rattle.image_shape.specs.declared.window.Stretch.{Stretch}
use Rattle.image_shape.specs.declared.shape.Shape.{Shape}
use Rattle.image_model.specs.Windows.{stretch_cells, with_stretch}
use Rattle.image_shape.specs.contracts.shape.Shape as of_shape
use Rattle.image_shape.specs.Shape.{shaped}
use Rattle.image_shape.specs.Window.{as_stretch}
use Rattle.imgref.specs.Image.{mut_layout, shape_of}
use Rattle.imgref.specs.declared.img.Img.{Img}
use Rattle.imgref.proofs.ImageValues.{stretch_val, stretch_told, stretch_made, shape_val, shape_told, shape_made, img_val, img_row, img_told, LentCells, lent_cells_laws}
use Rattle.image_shape.specs.contracts.window.Stretch as of_part
use Rattle.imgref.specs.contracts.window.end_of as ends
use Rattle.imgref.proofs.window.end_of.Met as ending
use Rattle.imgref.specs.contracts.img.Img.from_parts as f
use Rattle.imgref.proofs.img.Img.from_parts.Met as made
use Rattle.imgref.specs.contracts.window.Img+mut+slice+T.from_stretch.{ended, clauses}
use Rattle.imgref.specs.contracts.window.Img+mut+slice+T.from_stretch.Key.{name as #self}
use Rattle.imgref.proofs.window.Img+mut+slice+T.from_stretch.Statement.{statement}
use Rattle.imgref.proofs.window.Img+mut+slice+T.from_stretch.Code as compiled

pub from_stretch_spec : {M : Type 1} → statement M
from_stretch_spec 𝓤 𝓛 𝓜 𝓡 wired T L =
    let H = 𝓛.H in let 𝓣 = tables 𝓤 H 𝓜 𝓡 𝓡.env in let fm = framed 𝓤 H 𝓜 𝓣 in
    let args : Args = of_one T in let fn : Fn = inst_fn args compiled.function in let R : RattleType = param 0 T in
    let En = ended T in let c = clauses T 𝓛 𝓜.mem 𝓡.returns in let ps = En.signature.params in let stays : Stays En.signature.params En.kept = (stay_dropped _ En.kept.0, (stay_dropped _ En.kept.1.0, (stay_dropped _ En.kept.1.1.0, tt))) in
    proved_at 𝓛 En stays c 𝓜 𝓡 ((λ κs x f vs ok. qed 𝓛 (‵ ftrue ∷ []) ∵ updating ! $ now ! $ done !), ((λ κs x f vs ok. qed 𝓛 (‵ ftrue ∷ []) ∵ updating ! $ now ! $ done !), ((λ κs x f vs ok. qed 𝓛 (‵ ftrue ∷ []) ∵ updating ! $ now ! $ done !), tt))) (#self args) fn (compiled.unfolded 𝓤 H 𝓜 𝓡 wired (T, tt)) (λ z are.
    let Post : Val → SProp 𝓤 = (walk_of 𝓛 En stays c).post z in let a = z.0.3 in let vss = z.0.4 in let κ : Lft = z.0.0.0 in let q : Share = z.0.1.0 in let κT : Lft = z.0.0.1.0 in let qT : Share = z.0.1.1.0 in
    let cells : MutBor (List T.Denot) = a.0 in
    let stretch : Stretch = a.1.0 in
    let shape : Shape = a.1.1.0 in
    let xs : List T.Denot = cells.now in
    let b : ℕ = cells.ref_ptr.0 in
    let o : ℕ = cells.ref_ptr.1 in
    let γ : GName = cells.ghost_name in
    let told = are.0.0.0 in
    let rm : Room R (length xs) = are.0.0.1 in
    let told₁ = stretch_told stretch vss.1.0 are.1.0 in
    let told₂ = shape_told shape vss.1.1.0 are.1.1.0 in
    let i : ℕ = stretch.start in
    let n : ℕ = stretch.len in
    let In : Type 0 = i + n ≤ length xs in
    let s : ℕ = size (layout T) in
    let j : ℕ = i + n in
    let m : ℕ = j - i in
    let p : ℕ = i * s + o in
    let front : List T.Denot = take i xs in
    let mid : List T.Denot = take n (drop_list i xs) in
    let back : List T.Denot = drop_list j xs in
    let cut : xs ≡ front ++ (mid ++ back) = cut_at i n j xs refl in
    let left : length (drop_list i xs) ≡ length xs - i = length-drop i xs in
    qed 𝓛 (((‵ (flft κ q) ⊛ ‵ (flft κT qT) ⊛ ‵ ftrue) ⊛ ‵ (owns (types_at ps z.0.0) a vss)) ∷ (raw (fact 𝓤 (κT ⊑ T.lives)) ⊛ raw (fact 𝓤 In)) ∷ []) ∵
    move ! (1 ∷ []) $ split ! $ heard ! (κT ⊑ T.lives) (λ le. heard ! In (λ inside. split ! $ move ! (1 ∷ []) $ fsplit ! $ keep ! (0 ∷ 2 ∷ []) $
    -- [the slice; the tokens]
    let fit : length xs * s < 2 ^ 63 = rm.1 in
    let within : i * s ≤ length xs * s = mul-le-mul_right s (omega arith) in
    let fp : i * s < 2 ^ 64 = omega arith in
    let fj : j < 2 ^ 64 = omega (arith, rm.0) in
    let same : m ≡ n = omega arith in
    let lf : length front ≡ i = length-take-le i xs (omega arith) in
    let on : at o s (length front) ≡ p = at_mul o s (length front) ∙ ap (λ (k : ℕ). k * s + o) lf in
    let long : length mid ≡ n = length-take-le n (drop_list i xs) (omega arith) in
    let bytes : length mid * s ≤ length xs * s = mul-le-mul_right s (omega arith) in
    let room : Room R (length mid) = (omega arith, omega arith) in
    let Lent : GName → Item 𝓤 = part_lent 𝓛 (named 0) κ q b o γ R xs front mid back cut p on room in
    regoal ! (λ (vs : List Val). prop (WpFn 𝓤 H 𝓣.C 𝓣.Λ fn vs Post)) (λ k. told k ++ (told₁.0 k ++ (told₂.0 k ++ []))) refl $
    enter ! 𝓣.C 𝓣.Λ fn (slice_val cells.ref_ptr (length xs) ∷ stretch_val stretch ∷ shape_val shape ∷ []) Post $
    alloc_all ! (λ l. pass_all ! refl ((tt, (tt, (record { fits = rm.0 }, tt))), ((tt, (record { fits = told₁.1 }, (record { fits = told₁.2 }, tt))), ((tt, (record { fits = told₂.1 }, (record { fits = told₂.2 }, (record { fits = told₂.3 }, tt)))), tt))) $
    let GE = triple_of 𝓛 ends.signature (ends.spec 𝓛 𝓜.mem 𝓡.returns) in
    let ze : GE.Ghost = ((tt, tt, tt, (stretch, tt), (stretch_val stretch ∷ [], tt)), tt) in
    let Counts : Type 0 = j < 2 ^ 64 in
    nothing ! $ use0 𝓛 (‵ (of_part.the_row.own_val stretch (stretch_val stretch ∷ []))) (stretch_made 𝓛 stretch told₁.1 told₁.2) $ join ! $ nothing ! $ join ! $
    use0 𝓛 (raw (fact 𝓤 Counts)) (fact_i 𝓤 Counts (emp 𝓤) fj) $ move ! (1 ∷ 0 ∷ []) $ use2 𝓛 (raw (GE.pre ze)) (id⊢ 𝓤 _) $
    calls_at ! fm GE (ending.met 𝓤 𝓛 𝓜 𝓡 (compiled.calls-imgref::window::end_of 𝓡.env wired)) ze (and_then ! (get ! refl) (no_more !)) (λ ve.
    use1 𝓛 (later (some (λ (k : ℕ). (‵ ftrue ⊛ ‵ (usize.own_val k (ve ∷ []))) ⊛ some (λ (us : Unit {0} × Unit {0}). ‵ (lasts ends.ended ze.0.0 ze.0.3 us) ⊛ raw (fact 𝓤 (k ≡ j)))))) (id⊢ 𝓤 _) $
    await ! tt $ pick ! (λ k. split ! $ split ! $ drop ! $ move ! (1 ∷ []) $ pick ! (λ us. split ! $ drop ! $ heard ! (k ≡ j) (λ at_end.
    peeks ! usize (Is usize) (shows 𝓛 usize) k (ve ∷ []) (λ isk. drop ! $ lands_as ! (ap only isk.0 ∙ ap (vint w64) at_end) refl (tt, record { fits = fj }) $
    sets ! (is ! (bin ! (get_in ! (fld ! refl (stop !)) (sub ! 0 refl (whole !))) (size_word !) (record { fits = subst (λ (k : ℕ). k < 2 ^ 64) (sym (uncapped i s fp)) fp })) (ap (vint w64) (uncapped i s fp))) refl (tt, record { fits = fp }) $
    sets ! (bin ! (get_in ! (fld ! refl (stop !)) (sub ! 0 refl (whole !))) (get ! refl) tt) refl (tt, tt) $
    sets ! (is ! (bin ! (get ! refl) (get_in ! (fld ! refl (stop !)) (sub ! 0 refl (whole !))) (omega arith)) (ap (vint w64) same)) refl (tt, record { fits = told₁.2 }) $
    sets ! (addr ! (through ! refl (stop !))) refl (tt, tt) $
    sets ! (agg ! (and_then ! (get ! refl) (and_then ! (get ! refl) (no_more !)))) refl (tt, (tt, (record { fits = told₁.2 }, tt))) $
    -- [the slice; the tokens]
    move ! (1 ∷ []) $ split3 ! $ move ! (3 ∷ 0 ∷ []) $ use2 𝓛 (later (some Lent)) (lends_part 𝓛 (named 0) κ q b o γ R xs front mid back cut p on room (vss.0)) $ await ! tt $ pick ! (λ δ. split3 ! $
    -- [the stretch; the token of κ; what follows; the token of κT; nothing]
    let taken : MutBor (List T.Denot) = record { ref_ptr = (b, p); ghost_name = δ; now = mid } in
    rewrite ! 0 (λ (k : ℕ). ‵ ((MutSlice (named 0) κ R).own_val taken (slice_val (b, p) k ∷ []))) long refl $
    let X : RattleType = LentCells κ T in
    let lives : κ ⊑ X.lives = ⊑_meet κ κ T.lives (⊑_refl κ) (⊑_trans κ κT T.lives z.0.2.0 le) in
    let G = triple_of 𝓛 (f.signature X) (f.spec X 𝓛 𝓜.mem 𝓡.returns) in
    let z₁ : G.Ghost = (((κ, tt), (q, tt), tt, (taken, (shape, tt)), (slice_val (b, p) n ∷ [], (shape_val shape ∷ [], tt))), tt) in
    nothing ! $ use0 𝓛 (‵ (of_shape.the_row.own_val shape (shape_val shape ∷ []))) (shape_made 𝓛 shape told₂.1 told₂.2 told₂.3) $ join ! $ move ! (1 ∷ 0 ∷ []) $ join ! $
    nothing ! $ move ! (2 ∷ 0 ∷ []) $ join ! $ join ! $
    -- [the token of κ and the arguments; what follows; the token of κT; nothing]
    nothing ! $ use0 𝓛 (raw (fact 𝓤 (κ ⊑ X.lives))) (fact_i 𝓤 (κ ⊑ X.lives) (emp 𝓤) lives) $ join ! $ move ! (1 ∷ 0 ∷ []) $ use2 𝓛 (raw (G.pre z₁)) (id⊢ 𝓤 _) $
    calls_at ! fm G (made.met 𝓤 𝓛 𝓜 𝓡 (compiled.calls-imgref::img::Img::from_parts 𝓡.env wired) X (lent_cells_laws κ T L)) z₁ (and_then ! (get ! refl) (and_then ! (get ! refl) (no_more !))) (λ v.
    let Row : RattleType = img_row (named 0) κ R in
    let Out : Type 0 = Img (MutBor (List T.Denot)) in
    use1 𝓛 (later (some (λ (r : Out). ((‵ (flft κ q) ⊛ ‵ ftrue) ⊛ ‵ (Row.own_val r (v ∷ []))) ⊛ some (λ (us : Unit {0} × (Unit {0} × Unit {0})). ‵ (lasts (f.ended X) z₁.0.0 z₁.0.3 us)
    ⊛ (raw (fact 𝓤 (r.buf ≡ taken)) ⊛ raw (fact 𝓤 (shape_of r ≡ shape)) ⊛ raw (fact 𝓤 (r.width ≡ shape.width)) ⊛ raw (fact 𝓤 (r.height ≡ shape.height)) ⊛ raw (fact 𝓤 (r.stride ≡ shape.stride))))))) (id⊢ 𝓤 _) $
    await ! tt $ pick ! (λ r. split ! $ split ! $ move ! (2 ∷ []) $ pick ! (λ us. split ! $ drop ! $ split ! $ heard ! (r.buf ≡ taken) (λ same. split ! $ heard ! (shape_of r ≡ shape) (λ alike. drop ! $
    -- [the token of κ; the image; what follows; the token of κT; nothing]
    split ! $ move ! (1 ∷ []) $ drop ! $ move ! (1 ∷ []) $
    peeks ! Row (Is Row) (shows 𝓛 Row) r (v ∷ []) (λ is. let told₃ = img_told (named 0) κ R r (v ∷ []) is in
    let w : Val = img_val r.buf.ref_ptr (length r.buf.now) (shape_of r) in
    let Laid : Type 0 = mut_layout r ≡ shaped (stretch_cells xs (as_stretch stretch)) shape in
    rewrite ! 0 (λ (us : List Val). ‵ (Row.own_val r us)) (told₃.0) refl $
    lands_as ! (ap only (told₃.0)) refl (tt, ((tt, (record { fits = told₃.1.0 }, tt)), (record { fits = told₃.2 }, (record { fits = told₃.3 }, (record { fits = told₃.4 }, tt))))) $
    returns ! (look_at ! 0 refl) $ free_all ! refl $
    -- [the image; the token of κ; what follows; the token of κT; nothing]
    rewrite ! 2 (λ (name : GName). ‵ (follows (Array R 0) (Array R 0) γ name (with_stretch xs (as_stretch stretch)))) (ap (λ (m : MutBor (List T.Denot)). m.ghost_name) (sym same)) refl $
    move ! (3 ∷ 4 ∷ []) $ join ! $ move ! (2 ∷ 0 ∷ []) $ join ! $
    -- [the tokens; the image; what follows]
    nothing ! $ nothing ! $ fjoin ! $ nothing ! $ fjoin ! $ nothing ! $ fjoin ! $
    use0 𝓛 (raw (fact 𝓤 Laid)) (fact_i 𝓤 Laid (emp 𝓤) (λ k. shaped ((same k).now) (alike k))) $
    move ! (4 ∷ 0 ∷ []) $ join ! $ move ! (2 ∷ 1 ∷ 3 ∷ 0 ∷ []) $
    by ! (leaves 𝓛 En stays c z w r (tt, (tt, (tt, tt))) (tt, (tt, (tt, tt))))))))))))))))))))
