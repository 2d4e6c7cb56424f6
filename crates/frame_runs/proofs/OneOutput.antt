-- An input has one result and one output, except where a device or memory ends a run early.
use Rattle.std.proofs.Common.{◌≡◌, ℕ, ◌⊎◌, Bool, true, false, List, [], ◌∷◌, ◌++◌, Some, None, Result, Ok, Err, length, take, drop, refl, sym, ap, ◌∙◌, subst, arith, append_assoc, append-nil, length-append, inl, inr}
use Rattle.std.proofs.lemmas.List.{take-append-drop}
use Rattle.frame_edits.specs.Edits.{Edits}
use Rattle.frame_runs.specs.Alike.{Agree, BeginsWith, OneOutput, is_broken_off}
use Rattle.frame_runs.specs.Passing.{IsNoNext, IsNotEditedNext}
use Rattle.frame_runs.specs.Pictures.{BeginsPicture, IsNoPicture, IsPictureNotEdited}
use Rattle.frame_runs.specs.Program.{Stream, begins_picture, are_pictures, heads_of, Carries, IsCounted, IsNoMore, IsNoStream, IsNotEdited, StopsOutside, StopsForMemory, Writes}
use Rattle.frame_runs.specs.Program.Stream.{video, pictures}
use Rattle.frame_runs.specs.Stream.{Piece, IsPiece, piece_text}
use Rattle.frame_requests.specs.declared.fault.RunFault.{RunFault}
use Rattle.frame_requests.specs.declared.fault.RunFault.TheVariants.{Header, Outside, Frame, Memory, Input, Output}
use Rattle.frame_runs.proofs.Heads.{either_begins}
use Rattle.frame_runs.proofs.Hiding.{Laws, readable, hides}
use Rattle.frame_runs.proofs.Pieces.{cut_some, begins_cut, no_begin, edited_cut}
use Rattle.frame_runs.proofs.CarriedPieces.{further, further_text, longest, one_end, at_end, nothing_left, not_edited, all_pictures, header_none, unplanned}

module _ (laws : Laws) (edit : Edits) (input : List ℕ) where
  -- ---- what was written

  module _ (old : List ℕ) where
    -- a beginning of what some pieces become
    record Sent (new : List ℕ) : Type 0 where
      count : ℕ
      rest : List ℕ
      text : List ℕ
      carries : Carries edit count input rest text
      sent : List ℕ
      more : List ℕ
      text_is : text ≡ sent ++ more
      new_is : new ≡ old ++ sent

    all_sent : (n : ℕ) (rest text new : List ℕ) → Carries edit n input rest text → new ≡ old ++ text → Sent new
    all_sent n rest text new c e = record { count = n; rest = rest; text = text; carries = c; sent = text; more = []; text_is = sym (append-nil text); new_is = e }

    outside_sent : (b : Bool) (new : List ℕ) → StopsOutside b edit input (Some old) (Some new) → (new ≡ old) ⊎ Sent new
    outside_sent false new w = inl w.0
    outside_sent true new w = inr (all_sent w.0 w.1.rest w.1.text new w.1.carries w.1.written)

    memory_sent : (b : Bool) (n : ℕ) (new : List ℕ) → StopsForMemory b n edit input (Some old) (Some new) → (new ≡ old) ⊎ Sent new
    memory_sent false n new w = inl w.2
    memory_sent true n new w = inr (all_sent n w.rest w.text new w.carries w.written)

    told : (r : Result ℕ RunFault) (new : List ℕ) → Writes r edit (Some input) (Some old) (Some new) → (new ≡ old) ⊎ Sent new
    told (Ok n) new w = inr (all_sent n [] w.0 new w.1 w.3)
    told (Err (Frame n)) new w = inr (all_sent n w.0 w.1 new w.2 w.4)
    told (Err Input) new w = elim w [ inl keeps ↦ inl keeps | inr s ↦ inr (all_sent s.0 s.1.rest s.1.text new s.1.carries s.1.written) ]
    told (Err Output) new w = inr (record { count = w.0; rest = w.1; text = w.2; carries = w.3; sent = take w.4.0 w.2; more = drop w.4.0 w.2; text_is = sym (take-append-drop w.4.0 w.2); new_is = w.4.2 })
    told (Err Header) new w = inl w.0
    told (Err Outside) new w = outside_sent (begins_picture input) new w
    told (Err (Memory n)) new w = memory_sent (begins_picture input) n new w

    longer_by : (new other x y c : List ℕ) → new ≡ old ++ x → other ≡ old ++ y → y ≡ x ++ c → BeginsWith other new
    longer_by new other x y c n o e = (c, o ∙ ap (λ l. old ++ l) e ∙ sym (append_assoc old x c) ∙ ap (λ l. l ++ c) (sym n))

    kept : (new other : List ℕ) → new ≡ old → (other ≡ old) ⊎ Sent other → BeginsWith other new
    kept new other e t = elim t [ inl f ↦ ([], f ∙ sym e ∙ sym (append-nil new)) | inr s ↦ (s.sent, s.new_is ∙ ap (λ l. l ++ s.sent) (sym e)) ]

    beginnings : (new other : List ℕ) (s : Sent new) (t : Sent other) → BeginsWith t.text s.text → BeginsWith new other ⊎ BeginsWith other new
    beginnings new other s t f =
        let whole : s.sent ++ (s.more ++ f.0) ≡ t.sent ++ t.more = sym (append_assoc s.sent s.more f.0) ∙ ap (λ l. l ++ f.0) (sym s.text_is) ∙ sym f.1 ∙ t.text_is in
        elim (either_begins s.sent t.sent (s.more ++ f.0) t.more whole) [
          | inl l ↦ inr (longer_by new other s.sent t.sent l.0 s.new_is t.new_is l.1)
          | inr l ↦ inl (longer_by other new t.sent s.sent l.0 t.new_is s.new_is l.1)
        ]

    swap : (a b : List ℕ) → BeginsWith a b ⊎ BeginsWith b a → BeginsWith b a ⊎ BeginsWith a b
    swap a b e = elim e [ inl x ↦ inr x | inr x ↦ inl x ]

    one_begins : (new other : List ℕ) → (new ≡ old) ⊎ Sent new → (other ≡ old) ⊎ Sent other → BeginsWith new other ⊎ BeginsWith other new
    one_begins new other a b = elim a [
      | inl e ↦ inr (kept new other e b)
      | inr s ↦ elim b [
        | inl f ↦ inl (kept other new f (inr s))
        | inr t ↦ elim (further laws edit input s.count t.count s.rest t.rest s.text t.text s.carries t.carries) [
          | inl f ↦ beginnings new other s t (further_text laws edit input s.count t.count s.rest t.rest s.text t.text s.carries t.carries f)
          | inr f ↦ swap other new (beginnings other new t s (further_text laws edit input t.count s.count t.rest s.rest t.text s.text t.carries s.carries f))
        ]
      ]
    ]

    -- ---- by a run that was not broken off

    -- all pieces, or nothing, where no piece is carried
    record Whole (new : List ℕ) : Type 0 where
      count : ℕ
      rest : List ℕ
      text : List ℕ
      carries : Carries edit count input rest text
      none : (count ≡ 18446744073709551615) ⊎ ((p : Piece) (l : List ℕ) → IsPiece (heads_of edit carries.stream) p → rest ≡ piece_text p ++ l → ⊥)
      new_is : new ≡ old ++ text

    abbrev NoText : List ℕ → Type 0
    NoText new = (new ≡ old) × ((n : ℕ) (a t : List ℕ) → Carries edit n input a t → t ≡ [])

    outside_whole : (b : Bool) → begins_picture input ≡ b → (new : List ℕ) → StopsOutside b edit input (Some old) (Some new) → Whole new ⊎ NoText new
    outside_whole false kind new w = inr (w.0, λ n a t c. absurd (unplanned laws edit input n a t c kind w.1))
    outside_whole true kind new w =
        let c = w.1.carries in
        inl (record { count = w.0; rest = w.1.rest; text = w.1.text; carries = c; none = not_edited laws edit input c.stream (all_pictures laws edit input c.stream (sym c.kind ∙ kind)) w.0 w.1.rest w.1.ends; new_is = w.1.written })

    whole : (r : Result ℕ RunFault) (new : List ℕ) → is_broken_off r ≡ false → Writes r edit (Some input) (Some old) (Some new) → Whole new ⊎ NoText new
    whole (Ok n) new is w = inl (record { count = n; rest = []; text = w.0; carries = w.1; none = nothing_left laws edit input w.1.stream n; new_is = w.3 })
    whole (Err (Frame n)) new is w = inl (record { count = n; rest = w.0; text = w.1; carries = w.2; none = at_end laws edit input w.2.stream n w.0 w.3; new_is = w.4 })
    whole (Err Header) new is w = inr (w.0, λ n a t c. (header_none laws edit input n a t c w.1).text)
    whole (Err Outside) new is w = outside_whole (begins_picture input) refl new w
    whole _ new is w = absurd (let bad : true ≡ false = is in cc)

    nil_front : (xs ys : List ℕ) → xs ++ ys ≡ [] → xs ≡ []
    nil_front [] ys e = refl
    nil_front (x ∷ xs) ys e = absurd cc

    whole_begins : (new other : List ℕ) → Whole new ⊎ NoText new → (other ≡ old) ⊎ Sent other → BeginsWith new other
    whole_begins new other w b = elim w [
      | inl w ↦ elim b [
        | inl f ↦ (w.text, w.new_is ∙ ap (λ l. l ++ w.text) (sym f))
        | inr t ↦ (let l = longest laws edit input w.count t.count w.rest t.rest w.text t.text w.carries t.carries w.none in
            longer_by other new t.sent w.text (t.more ++ l.0) t.new_is w.new_is (l.1 ∙ ap (λ k. k ++ l.0) t.text_is ∙ append_assoc t.sent t.more l.0))
      ]
      | inr none ↦ elim b [
        | inl f ↦ ([], none.0 ∙ sym f ∙ sym (append-nil other))
        | inr t ↦ (let nil = nil_front t.sent t.more (sym t.text_is ∙ none.1 t.count t.rest t.text t.carries) in
            let same : other ≡ old = t.new_is ∙ ap (λ l. old ++ l) nil ∙ append-nil old in
            ([], none.0 ∙ sym same ∙ sym (append-nil other)))
      ]
    ]

    both_begin : (a b : List ℕ) → BeginsWith a b → BeginsWith b a → a ≡ b
    both_begin a b (x, e) (y, f) = e ∙ nil_back x (omega (arith, ap length e, ap length f, length-append b x, length-append a y))
      where
        nil_back : (x : List ℕ) → length x ≡ 0 → b ++ x ≡ b
        nil_back [] none = append-nil b
        nil_back (z ∷ x) none = absurd (omega (arith, none))

    -- ---- one result

    ok_frame : (n m : ℕ) (new other : List ℕ) → Writes (Ok n) edit (Some input) (Some old) (Some new) → Writes (Err (Frame m)) edit (Some input) (Some old) (Some other) → ⊥
    ok_frame n m new other w v =
        let one = one_end laws edit input n m [] v.0 w.0 v.1 w.1 v.2 (nothing_left laws edit input w.1.stream n) (at_end laws edit input v.2.stream m v.0 v.3) in
        still v.2.stream m (subst (λ (s : Stream). IsCounted s m) one.one_stream (subst (IsCounted w.1.stream) one.one_count w.2)) v.0 (sym one.one_rest) v.3
      where
        still : (s : Stream) (m : ℕ) → IsCounted s m → (rest : List ℕ) → rest ≡ [] → IsNoMore edit s m rest → ⊥
        still (video line recipe) m counted rest none never = elim never [
          | inl last ↦ omega (arith, last, counted)
          | inr never ↦ elim never [ inl never ↦ never.some none | inr cut ↦ cut_some (heads_of edit (video line recipe)) (readable laws edit (video line recipe)) rest cut none ]
        ]
        still pictures m counted rest none never = never.some none

    -- an end at a picture that the edits don't suit
    record NotEdited : Type 0 where
      count : ℕ
      rest : List ℕ
      text : List ℕ
      carries : Carries edit count input rest text
      one_stream : carries.stream ≡ pictures
      not : IsNotEditedNext edit count rest

    outside_ends : (b : Bool) → begins_picture input ≡ b → (new : List ℕ) → StopsOutside b edit input (Some old) (Some new) → ((begins_picture input ≡ false) × IsNotEdited edit input) ⊎ NotEdited
    outside_ends false kind new w = inl (kind, w.1)
    outside_ends true kind new w = let c = w.1.carries in inr (record { count = w.0; rest = w.1.rest; text = w.1.text; carries = c; one_stream = all_pictures laws edit input c.stream (sym c.kind ∙ kind); not = w.1.ends })

    ends_outside : (new : List ℕ) → Writes (Err Outside) edit (Some input) (Some old) (Some new) → ((begins_picture input ≡ false) × IsNotEdited edit input) ⊎ NotEdited
    ends_outside new w = outside_ends (begins_picture input) refl new w

    not_begun : (bytes : List ℕ) → bytes ≡ [] → BeginsPicture bytes → ⊥
    not_begun bytes none b = let letter = laws.letter b.head b.picture b.is.named in omega (arith, ap length none, ap length b.read, ap length letter.1, length-append b.head b.more)

    ok_outside : (n : ℕ) (new other : List ℕ) → Writes (Ok n) edit (Some input) (Some old) (Some new) → Writes (Err Outside) edit (Some input) (Some old) (Some other) → ⊥
    ok_outside n new other w v = elim (ends_outside other v) [
      | inl never ↦ unplanned laws edit input n [] w.0 w.1 never.0 never.1
      | inr e ↦ (let one = one_end laws edit input n e.count [] e.rest w.0 e.text w.1 e.carries (nothing_left laws edit input w.1.stream n) (not_edited laws edit input e.carries.stream e.one_stream e.count e.rest e.not) in
          not_begun e.rest (sym one.one_rest) e.not.1.begins)
    ]

    frame_outside : (n : ℕ) (new other : List ℕ) → Writes (Err (Frame n)) edit (Some input) (Some old) (Some new) → Writes (Err Outside) edit (Some input) (Some old) (Some other) → ⊥
    frame_outside n new other w v = elim (ends_outside other v) [
      | inl never ↦ unplanned laws edit input n w.0 w.1 w.2 never.0 never.1
      | inr e ↦ (let one = one_end laws edit input n e.count w.0 e.rest w.1 e.text w.2 e.carries (at_end laws edit input w.2.stream n w.0 w.3) (not_edited laws edit input e.carries.stream e.one_stream e.count e.rest e.not) in
          let none : IsNoNext edit n w.0 = subst (λ (s : Stream). IsNoMore edit s n w.0) (one.one_stream ∙ e.one_stream) w.3 in
          elim none.none [
            | inl last ↦ omega (arith, last, one.one_count, e.not.0)
            | inr none ↦ elim none [
              | inl never ↦ no_begin w.0 never.1 (subst BeginsPicture (sym one.one_rest) e.not.1.begins)
              | inr cut ↦ edited_cut laws.apart edit w.0 cut (subst (λ (l : List ℕ). IsPictureNotEdited edit l) (sym one.one_rest) e.not.1)
            ]
          ])
    ]

    ok_header : (n : ℕ) (new other : List ℕ) → Writes (Ok n) edit (Some input) (Some old) (Some new) → Writes (Err Header) edit (Some input) (Some old) (Some other) → ⊥
    ok_header n new other w v =
        let never = header_none laws edit input n [] w.0 w.1 v.1 in
        let bad : false ≡ true = sym (ap begins_picture never.rest) ∙ w.1.kind ∙ ap are_pictures never.one_stream in
        cc

    frame_header : (n : ℕ) (new other : List ℕ) → Writes (Err (Frame n)) edit (Some input) (Some old) (Some new) → Writes (Err Header) edit (Some input) (Some old) (Some other) → ⊥
    frame_header n new other w v =
        let never = header_none laws edit input n w.0 w.1 w.2 v.1 in
        let none : IsNoNext edit n w.0 = subst (λ (s : Stream). IsNoMore edit s n w.0) never.one_stream w.3 in
        let picture : IsNoPicture input = subst (λ (b : Bool). IsNoStream b input) (w.2.kind ∙ ap are_pictures never.one_stream) v.1 in
        elim none.none [
          | inl last ↦ omega (arith, last, never.count)
          | inr none ↦ elim none [
            | inl behind ↦ omega (arith, behind.0, never.count)
            | inr cut ↦ no_begin input picture (subst BeginsPicture (sym never.rest) (begins_cut edit w.0 cut))
          ]
        ]

    outside_header : (new other : List ℕ) → Writes (Err Outside) edit (Some input) (Some old) (Some new) → Writes (Err Header) edit (Some input) (Some old) (Some other) → ⊥
    outside_header new other w v = elim (ends_outside new w) [
      | inl never ↦ (let b = never.1.begins in
          let bad : Some b.format ≡ None = sym b.named ∙ subst (λ (k : Bool). IsNoStream k input) never.0 v.1 b.line b.more b.one_line b.short b.read in
          cc)
      | inr e ↦ (let never = header_none laws edit input e.count e.rest e.text e.carries v.1 in
          no_begin input (subst (λ (b : Bool). IsNoStream b input) (e.carries.kind ∙ ap are_pictures e.one_stream) v.1) (subst BeginsPicture (sym never.rest) e.not.1.begins))
    ]

    one_answer : (r s : Result ℕ RunFault) (new other : List ℕ) → is_broken_off r ≡ false → is_broken_off s ≡ false → Writes r edit (Some input) (Some old) (Some new) → Writes s edit (Some input) (Some old) (Some other) → r ≡ s
    one_answer (Ok n) (Ok m) new other is it w v = ap (λ k. Ok k) (one_end laws edit input n m [] [] w.0 v.0 w.1 v.1 (nothing_left laws edit input w.1.stream n) (nothing_left laws edit input v.1.stream m)).one_count
    one_answer (Ok n) (Err (Frame m)) new other is it w v = absurd (ok_frame n m new other w v)
    one_answer (Ok n) (Err Outside) new other is it w v = absurd (ok_outside n new other w v)
    one_answer (Ok n) (Err Header) new other is it w v = absurd (ok_header n new other w v)
    one_answer (Err (Frame n)) (Ok m) new other is it w v = absurd (ok_frame m n other new v w)
    one_answer (Err (Frame n)) (Err (Frame m)) new other is it w v = ap (λ k. Err (Frame k)) (one_end laws edit input n m w.0 v.0 w.1 v.1 w.2 v.2 (at_end laws edit input w.2.stream n w.0 w.3) (at_end laws edit input v.2.stream m v.0 v.3)).one_count
    one_answer (Err (Frame n)) (Err Outside) new other is it w v = absurd (frame_outside n new other w v)
    one_answer (Err (Frame n)) (Err Header) new other is it w v = absurd (frame_header n new other w v)
    one_answer (Err Outside) (Ok m) new other is it w v = absurd (ok_outside m other new v w)
    one_answer (Err Outside) (Err (Frame m)) new other is it w v = absurd (frame_outside m other new v w)
    one_answer (Err Outside) (Err Outside) new other is it w v = refl
    one_answer (Err Outside) (Err Header) new other is it w v = absurd (outside_header new other w v)
    one_answer (Err Header) (Ok m) new other is it w v = absurd (ok_header m other new v w)
    one_answer (Err Header) (Err (Frame m)) new other is it w v = absurd (frame_header m other new v w)
    one_answer (Err Header) (Err Outside) new other is it w v = absurd (outside_header other new v w)
    one_answer (Err Header) (Err Header) new other is it w v = refl
    one_answer (Err (Memory n)) s new other is it w v = absurd (let bad : true ≡ false = is in cc)
    one_answer (Err Input) s new other is it w v = absurd (let bad : true ≡ false = is in cc)
    one_answer (Err Output) s new other is it w v = absurd (let bad : true ≡ false = is in cc)
    one_answer r (Err (Memory n)) new other is it w v = absurd (let bad : true ≡ false = it in cc)
    one_answer r (Err Input) new other is it w v = absurd (let bad : true ≡ false = it in cc)
    one_answer r (Err Output) new other is it w v = absurd (let bad : true ≡ false = it in cc)

    agree : (r s : Result ℕ RunFault) (new other : List ℕ) → Writes r edit (Some input) (Some old) (Some new) → Writes s edit (Some input) (Some old) (Some other) → Agree r s new other
    agree r s new other w v = record {
      one_answer = λ is it. one_answer r s new other is it w v;
      one_output = λ is it. both_begin new other (whole_begins new other (whole r new is w) (told s other v)) (whole_begins other new (whole s other it v) (told r new w));
      mine_whole = λ is. whole_begins new other (whole r new is w) (told s other v);
      theirs_whole = λ it. whole_begins other new (whole s other it v) (told r new w);
      one_begins = one_begins new other (told r new w) (told s other v);
    }

pub one_output : Laws → OneOutput
one_output laws edit mine theirs old new other r s like w v = elim like [
  | inl same ↦ agree laws edit theirs old r s new other (subst (λ (l : List ℕ). Writes r edit (Some l) (Some old) (Some new)) same w) v
  | inr alike ↦ agree laws edit theirs old r s new other (hides laws r edit (Some mine) (Some old) (Some new) w theirs alike) v
]
