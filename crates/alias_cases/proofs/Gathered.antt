-- What is gathered are terms with all their prefixes.
use Rattle.std.proofs.Common.{◌≡◌, ℕ, ◌+◌, ◌<◌, ◌≤◌, List, [], ◌∷◌, ◌++◌, length, take, slice_index, Contains, arith, refl, ap, sym, subst, ◌∙◌, inl, inr, ⊎_elim, append_assoc, append-nil, length-append}
use Rattle.std.specs.Prelude.{◌⊎◌}
use Rattle.std.specs.Ordering.{is_eq, ordering_reverse}
use Rattle.std.specs.declared.cmp.Ordering.{Ordering}
use Rattle.std.specs.declared.cmp.Ordering.TheVariants.{Less, Equal, Greater}
use Rattle.std.proofs.lemmas.List.{take_all, take_more}
use Rattle.std.proofs.lemmas.List.Elements.{Contains-append_cases, Contains-append_left, Contains-append_right, Contains-push}
use Rattle.access_paths.specs.{compare_terms, field, term}
use Rattle.access_paths.specs.declared.term.Term.{Term}
use Rattle.access_paths.proofs.Orders.{terms_total}
use Rattle.case_model.specs.{AreTermsOf, IsPrefix}
use Rattle.case_model.proofs.Terms.{same_term}
use Rattle.alias_cases.specs.{Gathers, inserted, put_by}
use Rattle.alias_cases.proofs.Lists.{IsIn, Rises, contains-in, each-from, each-in, in-contains, pairs-rises, rises-pairs}

abbrev IsBelow : Term → Term → Type 0
IsBelow t u = compare_terms t u ≡ Less

-- the list has what it had, and the term
in-inserted : (t : Term) (us : List Term) (x : Term) → IsIn x (inserted t us) → (x ≡ t) ⊎ IsIn x us
in-inserted t [] x has = ⊎_elim (λ (e : t ≡ x). inl (sym e)) (λ (h : ⊥). absurd h) has
in-inserted t (u ∷ us) x has = by (compare_terms t u) has (in-inserted t us x)
  where
    by : (o : Ordering) → IsIn x (put_by o t u us (inserted t us)) → (IsIn x (inserted t us) → (x ≡ t) ⊎ IsIn x us) → (x ≡ t) ⊎ IsIn x (u ∷ us)
    by Less h rest = ⊎_elim (λ (e : t ≡ x). inl (sym e)) (λ (i : IsIn x (u ∷ us)). inr i) h
    by Equal h rest = inr h
    by Greater h rest =
        ⊎_elim
        (λ (e : u ≡ x). inr (inl e))
        (λ (i : IsIn x (inserted t us)). ⊎_elim (λ (e : x ≡ t). inl e) (λ (j : IsIn x us). inr (inr j)) (rest i))
        h

inserted-has : (t : Term) (us : List Term) (x : Term) → (x ≡ t) ⊎ IsIn x us → IsIn x (inserted t us)
inserted-has t [] x h = ⊎_elim (λ (e : x ≡ t). inl (sym e)) (λ (i : ⊥). absurd i) h
inserted-has t (u ∷ us) x h = by (compare_terms t u) refl h (inserted-has t us x)
  where
    by : (o : Ordering) → compare_terms t u ≡ o → (x ≡ t) ⊎ IsIn x (u ∷ us) → ((x ≡ t) ⊎ IsIn x us → IsIn x (inserted t us))
        → IsIn x (put_by o t u us (inserted t us))
    by Less is h rest = ⊎_elim (λ (e : x ≡ t). inl (sym e)) (λ (i : IsIn x (u ∷ us)). inr i) h
    by Equal is h rest = ⊎_elim (λ (e : x ≡ t). inl (sym (e ∙ same_term t u (ap is_eq is)))) (λ (i : IsIn x (u ∷ us)). i) h
    by Greater is h rest =
        ⊎_elim
        (λ (e : x ≡ t). inr (rest (inl e)))
        (λ (i : IsIn x (u ∷ us)). ⊎_elim (λ (e : u ≡ x). inl e) (λ (j : IsIn x us). inr (rest (inr j))) i)
        h

inserted-rises : (t : Term) (us : List Term) → Rises IsBelow us → Rises IsBelow (inserted t us)
inserted-rises t [] up = (tt, tt)
inserted-rises t (u ∷ us) up = by (compare_terms t u) refl (inserted-rises t us up.1)
  where
    by : (o : Ordering) → compare_terms t u ≡ o → Rises IsBelow (inserted t us) → Rises IsBelow (put_by o t u us (inserted t us))
    by Less is rest = ((is, each-from (IsBelow t) us (λ x h. terms_total.trans t u x is (each-in (IsBelow u) us x up.0 h))), up)
    by Equal is rest = up
    by Greater is rest =
        let below : IsBelow u t = terms_total.antisymm u t ∙ ap ordering_reverse is in (
          each-from (IsBelow u) (inserted t us) (λ x h.
              ⊎_elim
              (λ (e : x ≡ t). subst (IsBelow u) (sym e) below)
              (λ (i : IsIn x us). each-in (IsBelow u) us x up.0 i)
              (in-inserted t us x h)),
          rest,
        )

-- a beginning of a list with one item more is the whole or a beginning of the list
cut : (ps ts : List ℕ) (f : ℕ) (more : List ℕ) → ps ++ f ∷ [] ≡ ts ++ more → (ts ≡ ps ++ f ∷ []) ⊎ ((m : List ℕ) × (ps ≡ ts ++ m))
cut ps [] f more e = inr (ps, refl)
cut [] (x ∷ []) f more e = let same : f ≡ x = cc in inl (ap (λ y. y ∷ []) (sym same))
cut [] (x ∷ y ∷ ts) f more e = absurd (omega (arith, ap length e, length-append ts more))
cut (y ∷ ps) (x ∷ ts) f more e =
    let first : y ≡ x = cc in
    let others : ps ++ f ∷ [] ≡ ts ++ more = cc in
    ⊎_elim
    (λ (h : ts ≡ ps ++ f ∷ []). inl (λ i. sym first i ∷ h i))
    (λ (h : (m : List ℕ) × (ps ≡ ts ++ m)). inr (h.0, λ i. first i ∷ h.1 i))
    (cut ps ts f more others)

pub itself : (t : Term) → IsPrefix t t
itself t = (refl, ([], sym (append-nil t.fields)))

-- the prefixes of a term with one field more are it and those of the term
prefix_cases : (t p : Term) (f : ℕ) → IsPrefix t (field p f) → (t ≡ field p f) ⊎ IsPrefix t p
prefix_cases t p f prefix =
    ⊎_elim
    (λ (e : t.fields ≡ p.fields ++ f ∷ []). inl (λ i. record { var = prefix.0 i; fields = e i }))
    (λ (h : (m : List ℕ) × (p.fields ≡ t.fields ++ m)). inr (prefix.0, h))
    (cut p.fields t.fields f prefix.1.0 prefix.1.1)

longer_prefix : (t p : Term) (f : ℕ) → IsPrefix t p → IsPrefix t (field p f)
longer_prefix t p f prefix = (prefix.0, (prefix.1.0 ++ f ∷ [], ap (λ fs. fs ++ f ∷ []) prefix.1.1 ∙ append_assoc t.fields prefix.1.0 (f ∷ [])))

no_prefix : (t : Term) (v : ℕ) → IsPrefix t (term v []) → t ≡ term v []
no_prefix t v prefix = by t.fields refl prefix.1.0 prefix.1.1
  where
    by : (fs : List ℕ) → t.fields ≡ fs → (more : List ℕ) → [] ≡ fs ++ more → t ≡ term v []
    by [] e more is = λ i. record { var = prefix.0 i; fields = e i }
    by (x ∷ fs) e more is = absurd (omega (arith, ap length is))

module _ (asked us : List Term) (q : Term) where
  -- with one more term asked, whose other prefixes are there
  with_one : (p : List Term) → AreTermsOf (asked ++ p) us → ((t u : Term) → Contains p u → IsPrefix t u → IsPrefix t q)
      → ((t : Term) → IsPrefix t q → (t ≡ q) ⊎ ((u : Term) × Contains p u × IsPrefix t u)) → AreTermsOf (asked ++ q ∷ []) (inserted q us)
  with_one p are keeps cases = record {
    ordered = rises-pairs IsBelow (inserted q us) (inserted-rises q us (pairs-rises IsBelow us are.ordered));
    holds = λ t. ((λ has. forth t (in-inserted q us t (contains-in (inserted q us) t has))), (λ from. in-contains (inserted q us) t (inserted-has q us t (back t from.0 from.1 from.2))));
  }
    where
      forth : (t : Term) → (t ≡ q) ⊎ IsIn t us → (u : Term) × Contains (asked ++ q ∷ []) u × IsPrefix t u
      forth t (inl e) = (q, Contains-push asked q, subst (λ x. IsPrefix x q) (sym e) (itself q))
      forth t (inr h) =
          let from = (are.holds t).0 (in-contains us t h) in
          ⊎_elim
          (λ (a : Contains asked from.0). (from.0, Contains-append_left asked (q ∷ []) from.0 a, from.2))
          (λ (b : Contains p from.0). (q, Contains-push asked q, keeps t from.0 b from.2))
          (Contains-append_cases asked p from.0 from.1)

      back : (t u : Term) → Contains (asked ++ q ∷ []) u → IsPrefix t u → (t ≡ q) ⊎ IsIn t us
      back t u has prefix =
          ⊎_elim
          (λ (a : Contains asked u). inr (contains-in us t ((are.holds t).1 (u, Contains-append_left asked p u a, prefix))))
          (λ (b : Contains (q ∷ []) u).
          let one : q ≡ u = ⊎_elim (λ (e : q ≡ u). e) (λ (none : ⊥). absurd none) (contains-in (q ∷ []) u b) in
          ⊎_elim
          (λ (e : t ≡ q). inl e)
          (λ (h : (w : Term) × Contains p w × IsPrefix t w). inr (contains-in us t ((are.holds t).1 (h.0, Contains-append_right asked p h.0 h.1, h.2))))
          (cases t (subst (IsPrefix t) (sym one) prefix)))
          (Contains-append_cases asked (q ∷ []) u has)

pub gathers-start : (v : ℕ) (us : List Term) → Gathers (term v [] ∷ []) us (inserted (term v []) us)
gathers-start v us = λ asked are.
    with_one asked us (term v []) [] (subst (λ l. AreTermsOf l us) (sym (append-nil asked)) are)
    (λ t u has prefix. absurd (omega (arith, has.1)))
    (λ t prefix. inl (no_prefix t v prefix))

pub gathers-more : (p : Term) (f : ℕ) (old us : List Term) → Gathers (p ∷ []) old us → Gathers (field p f ∷ []) old (inserted (field p f) us)
gathers-more p f old us gathers = λ asked are.
    with_one asked us (field p f) (p ∷ []) (gathers asked are)
    (λ t u has prefix.
    let one : p ≡ u = ⊎_elim (λ (e : p ≡ u). e) (λ (none : ⊥). absurd none) (contains-in (p ∷ []) u has) in
    longer_prefix t p f (subst (IsPrefix t) (sym one) prefix))
    (λ t prefix. ⊎_elim (λ (e : t ≡ field p f). inl e) (λ (h : IsPrefix t p). inr (p, (0, omega arith, refl), h)) (prefix_cases t p f prefix))

pub gathers-both : (a b x y z : List Term) → Gathers a x y → Gathers b y z → Gathers (a ++ b) x z
gathers-both a b x y z first second = λ asked are. subst (λ l. AreTermsOf l z) (append_assoc asked a b) (second (asked ++ a) (first asked are))

pub gathers-nothing : (x : List Term) → Gathers [] x x
gathers-nothing x = λ asked are. subst (λ l. AreTermsOf l x) (sym (append-nil asked)) are

-- the terms of one question of a tree, and of both that follow
pub gathers-asked : (t u : Term) (xs ys a b c d e : List Term) → Gathers (t ∷ []) a b → Gathers (u ∷ []) b c → Gathers xs c d → Gathers ys d e
    → Gathers (t ∷ u ∷ xs ++ ys) a e
gathers-asked t u xs ys a b c d e first second third fourth =
    gathers-both (t ∷ u ∷ []) (xs ++ ys) a c e (gathers-both (t ∷ []) (u ∷ []) a b c first second) (gathers-both xs ys c d e third fourth)

pub start_so : (v : ℕ) (p t : Term) (old new : List Term) → p ≡ term v [] → t ≡ p → new ≡ inserted t old → Gathers (p ∷ []) old new
start_so v p t old new is same so =
    subst (Gathers (p ∷ []) old) (sym (so ∙ ap (λ y. inserted y old) same))
    (subst (λ y. Gathers (y ∷ []) old (inserted y old)) (sym is) (gathers-start v old))

pub more_so : (p q t : Term) (f : ℕ) (old us new : List Term) → q ≡ field p f → t ≡ q → new ≡ inserted t us → Gathers (p ∷ []) old us → Gathers (q ∷ []) old new
more_so p q t f old us new is same so gathers =
    subst (Gathers (q ∷ []) old) (sym (so ∙ ap (λ y. inserted y us) same))
    (subst (λ y. Gathers (y ∷ []) old (inserted y us)) (sym is) (gathers-more p f old us gathers))

pub prefix_more : (t p q : Term) (i : ℕ) → i < length t.fields → p ≡ term t.var.0 (take i t.fields) → q ≡ field p (slice_index t.fields i)
    → q ≡ term t.var.0 (take (i + 1) t.fields)
prefix_more t p q i within so_far is =
    is ∙ ap (λ y. field y (slice_index t.fields i)) so_far ∙ ap (term t.var.0) (sym (take_more t.fields i 0 within))

pub prefix_all : (t p : Term) (i : ℕ) → length t.fields ≤ i → p ≡ term t.var.0 (take i t.fields) → p ≡ t
prefix_all t p i past so_far = so_far ∙ ap (term t.var.0) (take_all i t.fields past)
