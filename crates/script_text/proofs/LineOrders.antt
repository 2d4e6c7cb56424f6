-- Commands: what the fields of a line are read as has those fields, and is read from them.
use Rattle.std.proofs.Common.{◌≡◌, ℕ, Bool, true, false, cond, List, [], ◌∷◌, ◌++◌, map, Some, None, refl, sym, ap, subst, ◌∙◌, arith, append_assoc, inl, inr, codes}
use Rattle.std.specs.Option.{option_map}
use Rattle.std.specs.List.{find, flat_map, list_all, AllByRecursion}
use Rattle.std.specs.Str.{bytes_eq}
use Rattle.std.specs.Fmt.{decimal}
use Rattle.std.proofs.lemmas.List.{append-nil}
use Rattle.std.proofs.lemmas.Bool.{cases_Bool}
use Rattle.std.proofs.lemmas.Slice.Eq.{bytes_eq-Decides}
use Rattle.texts.specs.Fields.{IsWord, IsPixel}
use Rattle.script_text.specs.Fields.{IsPath, path_text}
use Rattle.script_text.specs.Line.{Kind, a_number, a_pixel, a_place, Argument, number, pixel, place, kind_of, argument_fields, IsArgument, Form, forms, form_of, kinds_of, Order, order, IsOrder, order_line, entry_fields}
use Rattle.texts.specs.Reading.{◌>>=◌, is_nil, number_of, number_at, pixel_of, pixel_at}
use Rattle.script_text.specs.Reading.{path_of, path_at, place_at, argument_at, arguments_at, order_at, order_in}
use Rattle.texts.proofs.FieldTexts.{first_is, first_back, then, number_law, pixel_law}
use Rattle.script_text.proofs.PathTexts.{path_law, lacks-path}
use Rattle.texts.proofs.FieldNumbers.{not_true}
use Rattle.texts.proofs.Options.{bind_some, map_some, guard_some, some_is, nil_is}
use Rattle.texts.proofs.PartsJoined.{lacks, AllLack, and_parts, lacks-decimal}

-- ---- one argument

-- the first fields are those of an argument of this kind
pub record IsNext (kind : Kind) (fields : List (List ℕ)) (x : Argument × List (List ℕ)) : Type 0 where
  pub cut : fields ≡ argument_fields x.0 ++ x.1
  pub kind_is : kind_of x.0 ≡ kind
  pub in_range : IsArgument x.0

argument_is : (kind : Kind) (fields : List (List ℕ)) (x : Argument × List (List ℕ)) → argument_at kind fields ≡ Some x → IsNext kind fields x
unfolding place_at
argument_is a_number fields x e =
    let m = map_some (number_at fields) (λ n. (number n.0, n.1)) x e in
    let at = first_is number_of decimal IsWord number_law fields m.0 m.1 in
    subst (IsNext a_number fields) m.2 (record { cut = at.0; kind_is = refl; in_range = at.1 })
argument_is a_pixel fields x e =
    let m = map_some (pixel_at fields) (λ p. (pixel p.0, p.1)) x e in
    let at = first_is pixel_of decimal IsPixel pixel_law fields m.0 m.1 in
    subst (IsNext a_pixel fields) m.2 (record { cut = at.0; kind_is = refl; in_range = at.1 })
argument_is a_place fields x e =
    let a = bind_some (number_at fields) (λ image. path_at image.1 >>= λ path. Some (place image.0 path.0, path.1)) x e in
    let b = bind_some (path_at a.0.1) (λ path. Some (place a.0.0 path.0, path.1)) x a.2 in
    let at = first_is number_of decimal IsWord number_law fields a.0 a.1 in
    let bt = first_is path_of path_text IsPath path_law a.0.1 b.0 b.1 in
    subst (IsNext a_place fields) (some_is (place a.0.0 b.0.0, b.0.1) x b.2) (record { cut = then fields _ _ _ at.0 bt.0; kind_is = refl; in_range = (at.1, bt.1) })

argument_back : (a : Argument) (rest : List (List ℕ)) → IsArgument a → argument_at (kind_of a) (argument_fields a ++ rest) ≡ Some (a, rest)
unfolding place_at
argument_back (number n) rest is = rw (first_back number_of decimal IsWord number_law n rest is) refl
argument_back (pixel p) rest is = rw (first_back pixel_of decimal IsPixel pixel_law p rest is) refl
argument_back (place image path) rest is =
    rw (first_back number_of decimal IsWord number_law image (path_text path ∷ rest) is.0, first_back path_of path_text IsPath path_law path rest is.1) refl

-- ---- arguments one after the other

-- the fields are those of arguments of these kinds, and then those that are left
pub record AreNext (kinds : List Kind) (fields : List (List ℕ)) (x : List Argument × List (List ℕ)) : Type 0 where
  pub cut : fields ≡ flat_map argument_fields x.0 ++ x.1
  pub kinds_are : map kind_of x.0 ≡ kinds
  pub in_range : AllByRecursion IsArgument x.0

arguments_are : (kinds : List Kind) (fields : List (List ℕ)) (x : List Argument × List (List ℕ)) → arguments_at kinds fields ≡ Some x → AreNext kinds fields x
unfolding arguments_at
arguments_are [] fields x e = subst (AreNext [] fields) (some_is ([], fields) x e) (record { cut = refl; kinds_are = refl; in_range = tt })
arguments_are (kind ∷ kinds) fields x e =
    let a = bind_some (argument_at kind fields) (λ first. arguments_at kinds first.1 >>= λ rest. Some (first.0 ∷ rest.0, rest.1)) x e in
    let b = bind_some (arguments_at kinds a.0.1) (λ rest. Some (a.0.0 ∷ rest.0, rest.1)) x a.2 in
    let first = argument_is kind fields a.0 a.1 in
    let others = arguments_are kinds a.0.1 b.0 b.1 in
    subst (AreNext (kind ∷ kinds) fields) (some_is (a.0.0 ∷ b.0.0, b.0.1) x b.2)
    (record {
      cut = first.cut ∙ ap (λ l. argument_fields a.0.0 ++ l) others.cut ∙ sym (append_assoc (argument_fields a.0.0) (flat_map argument_fields b.0.0) b.0.1);
      kinds_are = ap (λ k. k ∷ map kind_of b.0.0) first.kind_is ∙ ap (λ ks. kind ∷ ks) others.kinds_are;
      in_range = (first.in_range, others.in_range);
    })

arguments_back : (xs : List Argument) (rest : List (List ℕ)) → AllByRecursion IsArgument xs → arguments_at (map kind_of xs) (flat_map argument_fields xs ++ rest) ≡ Some (xs, rest)
unfolding arguments_at
arguments_back [] rest all = refl
arguments_back (x ∷ xs) rest all =
    rw (append_assoc (argument_fields x) (flat_map argument_fields xs) rest, argument_back x (flat_map argument_fields xs ++ rest) all.0, arguments_back xs rest all.1) refl

lacks-append : (xs ys : List (List ℕ)) → AllLack 32 xs → AllLack 32 ys → AllLack 32 (xs ++ ys)
lacks-append [] ys p q = q
lacks-append (x ∷ xs) ys p q = (p.0, lacks-append xs ys p.1 q)

-- no field of an argument has a space
lacks-argument : (a : Argument) → IsArgument a → AllLack 32 (argument_fields a)
lacks-argument (number n) is = (lacks-decimal 32 n (omega arith) is, tt)
lacks-argument (pixel p) is = (lacks-decimal 32 p (omega arith) (omega (arith, is)), tt)
lacks-argument (place image path) is = (lacks-decimal 32 image (omega arith) is.0, (lacks-path path is.1, tt))

lacks-arguments : (xs : List Argument) → AllByRecursion IsArgument xs → AllLack 32 (flat_map argument_fields xs)
lacks-arguments [] all = tt
lacks-arguments (x ∷ xs) all = lacks-append (argument_fields x) (flat_map argument_fields xs) (lacks-argument x all.0) (lacks-arguments xs all.1)

-- ---- words

-- the form that is found has the word, and what holds of each form
found : (fs : List Form) (word : List ℕ) (f : Form) (test : Form → Bool) → find (λ g. bytes_eq word g.word) fs ≡ Some f → list_all test fs ≡ true → (word ≡ f.word) × (test f ≡ true)
found [] word f test e all = absurd cc
found (g ∷ fs) word f test e all =
    let p = and_parts (test g) (list_all test fs) all in
    elim (cases_Bool (bytes_eq word g.word)) [
      | inl same ↦
          let is : g ≡ f = some_is g f (rw same at e) in
          subst (λ h. (word ≡ h.word) × (test h ≡ true)) is ((bytes_eq-Decides word g.word).0 same, p.0)
      | inr other ↦ found fs word f test (rw other at e) p.1
    ]

-- ---- commands

pub order_is : (word : List ℕ) (fields : List (List ℕ)) (o : Order) → order_in word fields ≡ Some o → (word ∷ fields ≡ entry_fields (order_line o)) × IsOrder o
unfolding order_in
order_is word fields o e =
    let a = bind_some (order_at word fields) (λ x. cond (is_nil x.1) (Some x.0) None) o e in
    let b = bind_some (form_of word) (λ f. option_map (λ x. (order f.word x.0, x.1)) (arguments_at f.kinds fields)) a.0 a.1 in
    let c = map_some (arguments_at b.0.kinds fields) (λ x. (order b.0.word x.0, x.1)) a.0 b.2 in
    let end = guard_some (is_nil a.0.1) a.0.0 o a.2 in
    let at = arguments_are b.0.kinds fields c.0 c.1 in
    let word_is = (found forms word b.0 (λ f. true) b.1 refl).0 in
    let made : Order = order b.0.word c.0.0 in
    let is : made ≡ o = ap (λ x. x.0) c.2 ∙ end.1 in
    let none : c.0.1 ≡ [] = ap (λ x. x.1) c.2 ∙ nil_is a.0.1 end.0 in
    let whole : fields ≡ flat_map argument_fields c.0.0 = at.cut ∙ ap (λ l. flat_map argument_fields c.0.0 ++ l) none ∙ append-nil (flat_map argument_fields c.0.0) in
    subst (λ v. (word ∷ fields ≡ entry_fields (order_line v)) × IsOrder v) is (
      ap (λ w. w ∷ fields) word_is ∙ ap (λ l. b.0.word ∷ l) whole,
      record {
        formed = ap kinds_of (sym word_is) ∙ ap (option_map (λ f. f.kinds)) b.1 ∙ ap (λ ks. Some ks) (sym at.kinds_are);
        in_range = at.in_range;
      },
    )

pub order_back : (o : Order) → IsOrder o → order_in o.word (flat_map argument_fields o.arguments) ≡ Some o
unfolding order_in
order_back o is =
    let read : arguments_at (map kind_of o.arguments) (flat_map argument_fields o.arguments) ≡ Some (o.arguments, []) =
    ap (arguments_at (map kind_of o.arguments)) (sym (append-nil (flat_map argument_fields o.arguments))) ∙ arguments_back o.arguments [] is.in_range in
    let f = map_some (form_of o.word) (λ f. f.kinds) (map kind_of o.arguments) is.formed in
    rw (f.1, f.2, read) (ap (λ word. Some (order word o.arguments)) (sym (found forms o.word f.0 (λ f. true) f.1 refl).0))

-- a command's word isn't an image's
pub order_word : (o : Order) → IsOrder o → bytes_eq o.word (codes "image") ≡ false
order_word o is =
    not_true (bytes_eq o.word (codes "image"))
    (λ same. let none : kinds_of o.word ≡ None = ap kinds_of ((bytes_eq-Decides o.word (codes "image")).0 same) in let some = is.formed in cc)

-- no field of a command has a space
pub lacks-order : (o : Order) → IsOrder o → AllLack 32 (entry_fields (order_line o))
lacks-order o is =
    let f = map_some (form_of o.word) (λ f. f.kinds) (map kind_of o.arguments) is.formed in
    let at = found forms o.word f.0 (λ g. lacks 32 g.word) f.1 refl in
    (ap (lacks 32) at.0 ∙ at.1, lacks-arguments o.arguments is.in_range)
