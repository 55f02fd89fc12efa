-- The steps of a term list, and its configurations by them.
use Rattle.std.proofs.Common.{◌≡◌, ℕ, ◌<◌, List, [], ◌∷◌, ◌++◌, length, true, ◌==◌, ◌&&◌, nat_eq, eqb-true, eq-eqb, All, Contains, AllPairs, Option, Some, None, slice_index, arith, refl, ap, sym, subst, ◌∙◌, ⊎_elim, append_assoc, length-append}
use Rattle.std.specs.Prelude.{◌⊎◌, ◌≢◌, slice_get}
use Rattle.std.specs.Cmp.Lexicographic.{bytes_decides, pointwise, slice_cmp}
use Rattle.std.specs.Ordering.{nat_cmp, ordering_reverse, ordering_then}
use Rattle.std.specs.declared.cmp.Ordering.TheVariants.{Less, Greater}
use Rattle.std.specs.Cmp.{nat_cmp_is}
use Rattle.std.proofs.lemmas.Bool.{and_from, and_parts, cases_order}
use Rattle.std.proofs.lemmas.Cmp.{tied_itself}
use Rattle.std.proofs.lemmas.Option.{get_or_from_slice_get, slice_get_within}
use Rattle.std.proofs.lemmas.Slice.Zip.{AllZip-long}
use Rattle.easl_model.specs.{fields_of}
use Rattle.easl_model.specs.Form.{Form}
use Rattle.easl_model.proofs.Items.{zip_at, zip_from}
use Rattle.easl_heap.specs.{FieldsLead}
use Rattle.access_paths.specs.{IsTermOf, compare_terms, field, term}
use Rattle.access_paths.specs.declared.term.Term.{Term}
use Rattle.access_paths.proofs.Orders.{terms_total}
use Rattle.case_model.specs.{IsConfiguration, IsTermList}
use Rattle.alias_cases.specs.{AreSteps, IsClosed, IsStepTo}
use Rattle.alias_cases.specs.declared.steps.Step.{Step}
use Rattle.alias_cases.proofs.Arranged.{IsArranged, IsLadder}

parted : (xs ys : List ℕ) (a b : ℕ) → xs ++ a ∷ [] ≡ ys ++ b ∷ [] → (xs ≡ ys) × (a ≡ b)
parted [] [] a b e = (refl, cc)
parted [] (y ∷ ys) a b e = absurd (omega (arith, ap length e, length-append ys (b ∷ [])))
parted (x ∷ xs) [] a b e = absurd (omega (arith, ap length e, length-append xs (a ∷ [])))
parted (x ∷ xs) (y ∷ ys) a b e =
    let first : x ≡ y = cc in
    let more : xs ++ a ∷ [] ≡ ys ++ b ∷ [] = cc in
    let rest = parted xs ys a b more in
    ((λ i. first i ∷ rest.0 i), rest.1)

-- one term with one field more is one term and one field
field_parts : (t u : Term) (f g : ℕ) → field t f ≡ field u g → (t ≡ u) × (f ≡ g)
field_parts t u f g e =
    let var : t.var.0 ≡ u.var.0 = ap (λ (x : Term). x.var.0) e in
    let fields = parted t.fields u.fields f g (ap (λ (x : Term). x.fields) e) in
    ((λ i. term (var i) (fields.0 i)), fields.1)

shorter_first : (u : Term) (f : ℕ) → compare_terms u (field u f) ≡ Less
shorter_first u f =
    let longer : length u.fields < length (u.fields ++ f ∷ []) = omega (arith, length-append u.fields (f ∷ [])) in
    ap (λ o. ordering_then o (ordering_then (nat_cmp u.var.0 u.var.0) (slice_cmp nat_cmp u.fields (u.fields ++ f ∷ [])))) (sym (nat_cmp_is (length u.fields) (length (u.fields ++ f ∷ [])) Less longer))

pub closed : (ts : List Term) (classes : List ℕ) → IsTermList ts classes → IsClosed ts
closed ts classes is t f there =
    let from = (is.terms.holds (field t f)).0 there in
    let rest = from.2.1 in
    (is.terms.holds t).1 (from.0, from.1, (from.2.0, (f ∷ rest.0, rest.1 ∙ append_assoc t.fields (f ∷ []) rest.0)))

-- what is one field shorter is there
pub step_there : (ts : List Term) (t : Term) (front : List ℕ) (f : ℕ) → IsClosed ts → Contains ts t → t.fields ≡ front ++ f ∷ []
    → All (λ u. u ≢ term t.var.0 front) ts → ⊥
step_there ts t front f shut there e none =
    let is : t ≡ field (term t.var.0 front) f = λ i. term t.var.0 (e i) in
    let has = shut (term t.var.0 front) f (subst (Contains ts) is there) in
    none has.0 (term t.var.0 front) has.1 has.2

pub same_reach : (t : Term) (variable : ℕ) (fields : List ℕ) → (t.var.0 == variable && pointwise nat_eq t.fields fields) ≡ true → t ≡ term variable fields
same_reach t variable fields h =
    let p = and_parts (nat_eq t.var.0 variable) (pointwise nat_eq t.fields fields) h in
    let v : t.var.0 ≡ variable = eqb-true t.var.0 variable p.0 in
    let f : t.fields ≡ fields = (bytes_decides t.fields fields).0 p.1 in
    λ i. term (v i) (f i)

pub reach_same : (t : Term) (variable : ℕ) (fields : List ℕ) → t ≡ term variable fields → (t.var.0 == variable && pointwise nat_eq t.fields fields) ≡ true
reach_same t variable fields is =
    and_from (nat_eq t.var.0 variable) (pointwise nat_eq t.fields fields)
    (eq-eqb t.var.0 variable (ap (λ (u : Term). u.var.0) is))
    ((bytes_decides t.fields fields).1 (ap (λ (u : Term). u.fields) is))

module _ (ts : List Term) (ordered : AllPairs (λ t u. compare_terms t u ≡ Less) ts) where
  earlier : (i j : ℕ) (t u : Term) → slice_get ts i ≡ Some t → slice_get ts j ≡ Some u → i < j → compare_terms t u ≡ Less
  earlier i j t u at at' h =
      let l = ordered i j t h (slice_get_within ts j u at') in
      ap (λ x. compare_terms x u) (sym (get_or_from_slice_get ts i t t at)) ∙ ap (compare_terms _) (sym (get_or_from_slice_get ts j u t at')) ∙ l

  not_itself : (t : Term) → compare_terms t t ≡ Less → ⊥
  not_itself t h = let tied = tied_itself terms_total t in cc

  one_place : (i j : ℕ) (t : Term) → slice_get ts i ≡ Some t → slice_get ts j ≡ Some t → i ≡ j
  one_place i j t at at' =
      ⊎_elim
      (λ (e : i ≡ j). e)
      (λ (apart : (i < j) ⊎ (j < i)).
      ⊎_elim
      (λ (h : i < j). absurd (not_itself t (earlier i j t t at at' h)))
      (λ (h : j < i). absurd (not_itself t (earlier j i t t at' at h)))
      apart)
      (cases_order i j)

  -- a term stands behind the one that is one field shorter
  shorter_earlier : (k l : ℕ) (u : Term) (f : ℕ) → slice_get ts l ≡ Some u → slice_get ts k ≡ Some (field u f) → l < k
  shorter_earlier k l u f at at' =
      ⊎_elim
      (λ (e : k ≡ l).
      let one : Some (field u f) ≡ Some u = sym at' ∙ ap (slice_get ts) e ∙ at in
      let same : field u f ≡ u = cc in
      absurd (not_itself u (ap (compare_terms u) (sym same) ∙ shorter_first u f)))
      (λ (apart : (k < l) ⊎ (l < k)).
      ⊎_elim
      (λ (h : k < l).
      let less = earlier k l (field u f) u at' at h in
      let turned : compare_terms (field u f) u ≡ Greater = terms_total.antisymm (field u f) u ∙ ap ordering_reverse (shorter_first u f) in
      absurd (cc))
      (λ (h : l < k). h)
      apart)
      (cases_order k l)

leads-split : (form : Form) (start : ℕ) (fs : List ℕ) (f end : ℕ) → FieldsLead form start (fs ++ f ∷ []) end
    → (mid : ℕ) × FieldsLead form start fs mid × (slice_get (fields_of form mid) f ≡ Some end)
leads-split form start [] f end leads = (start, refl, leads.1 ∙ ap Some leads.2)
leads-split form start (g ∷ fs) f end leads = let rest = leads-split form leads.0 fs f end leads.2 in (rest.0, (leads.0, leads.1, rest.1), rest.2)

leads-one : (form : Form) (start : ℕ) (fs : List ℕ) (a b : ℕ) → FieldsLead form start fs a → FieldsLead form start fs b → a ≡ b
leads-one form start [] a b leads other = sym leads ∙ other
leads-one form start (g ∷ fs) a b leads other =
    let both : Some leads.0 ≡ Some other.0 = sym leads.1 ∙ other.1 in
    let same : leads.0 ≡ other.0 = cc in
    leads-one form other.0 fs a b (subst (λ c. FieldsLead form c fs a) same leads.2) other.2

-- the class of a term with one field more is the field's in the term's class
field_class : (form : Form) (variables : List (Option ℕ)) (u : Term) (f d c : ℕ) → IsTermOf form variables u d → IsTermOf form variables (field u f) c
    → slice_get (fields_of form d) f ≡ Some c
field_class form variables u f d c shorter longer =
    let both : Some (Some shorter.start) ≡ Some (Some longer.start) = sym shorter.variable ∙ longer.variable in
    let same : shorter.start ≡ longer.start = cc in
    let parts = leads-split form longer.start u.fields f c longer.leads in
    let one : parts.0 ≡ d = leads-one form longer.start u.fields parts.0 d parts.1 (subst (λ s. FieldsLead form s u.fields d) same shorter.leads) in
    subst (λ m. slice_get (fields_of form m) f ≡ Some c) one parts.2

module _ (ts : List Term) (classes : List ℕ) (is : IsTermList ts classes) (steps : List (Option Step)) (are : AreSteps ts steps) where
  -- the terms of a step
  record From (k : ℕ) (s : Step) : Type 0 where
    shorter : Term
    at : slice_get ts s.shorter ≡ Some shorter
    longer_at : slice_get ts k ≡ Some (field shorter s.field)

  step_from : (k : ℕ) (s : Step) → slice_get steps k ≡ Some (Some s) → From k s
  step_from k s at =
      let t = zip_at (IsStepTo ts) ts steps k (Some s) are at in
      record { shorter = t.2.0; at = t.2.1; longer_at = t.1 ∙ ap Some t.2.2 }

  -- the step to a term that has a field
  record To (k i f : ℕ) : Type 0 where
    step : Step
    at : slice_get steps k ≡ Some (Some step)
    shorter : step.shorter ≡ i
    field : step.field ≡ f

  step_to : (k i f : ℕ) (t : Term) → slice_get ts i ≡ Some t → slice_get ts k ≡ Some (field t f) → To k i f
  step_to k i f t ti tk = let o = zip_from (IsStepTo ts) ts steps k (field t f) are tk in by o.0 o.1 o.2
    where
      by : (o : Option Step) → slice_get steps k ≡ Some o → IsStepTo ts (field t f) o → To k i f
      by None at none = absurd (omega (arith, ap length none, length-append t.fields (f ∷ [])))
      by (Some s) at here =
          let parts = field_parts t here.0 f s.field here.2 in
          record { step = s; at = at; shorter = one_place ts is.terms.ordered s.shorter i t (here.1 ∙ ap Some (sym parts.0)) ti; field = sym parts.1 }

  class_at : (k : ℕ) (t : Term) → slice_get ts k ≡ Some t → IsTermOf is.form is.variables t (slice_index classes k)
  class_at k t at =
      let c = zip_from (IsTermOf is.form is.variables) ts classes k t is.typed at in
      subst (IsTermOf is.form is.variables t) (sym (get_or_from_slice_get classes k c.0 0 c.1)) c.2

  next_class : (k : ℕ) (s : Step) → slice_get steps k ≡ Some (Some s)
      → slice_get (fields_of is.form (slice_index classes s.shorter)) s.field ≡ Some (slice_index classes k)
  next_class k s at =
      let from = step_from k s at in
      field_class is.form is.variables from.shorter s.field (slice_index classes s.shorter) (slice_index classes k)
      (class_at s.shorter from.shorter from.at)
      (class_at k (field from.shorter s.field) from.longer_at)

  pub as_many_steps : length steps ≡ length ts
  as_many_steps = AllZip-long (IsStepTo ts) ts steps are

  pub ladder : IsLadder steps classes
  ladder = record {
    as_many = AllZip-long (IsTermOf is.form is.variables) ts classes is.typed ∙ sym as_many_steps;
    earlier = λ k s at. let from = step_from k s at in shorter_earlier ts is.terms.ordered k s.shorter from.shorter s.field from.at from.longer_at;
    one_class = λ k l s t ks lt same_field same_class.
        let both : Some (slice_index classes k) ≡ Some (slice_index classes l) =
        sym (next_class k s ks)
        ∙ (λ i. slice_get (fields_of is.form (same_class i)) (same_field i))
        ∙ next_class l t lt in
        cc;
  }

  -- the configurations are what is arranged by all steps
  pub arranged-is : (bs : List ℕ) → IsArranged steps classes (length ts) bs → IsConfiguration ts classes bs
  arranged-is bs was = record {
    as_many = was.as_many;
    numbered = was.numbered;
    one_class = was.one_class;
    along_fields = λ i j k l f t u ti uj tk ul joined.
        let a = step_to k i f t ti tk in
        let b = step_to l j f u uj ul in
        was.along_fields k l a.step b.step (slice_get_within ts k (field t f) tk) (slice_get_within ts l (field u f) ul) a.at b.at
        (a.field ∙ sym b.field)
        (ap (slice_index bs) a.shorter ∙ joined ∙ ap (slice_index bs) (sym b.shorter));
  }

  pub is-arranged : (bs : List ℕ) → IsConfiguration ts classes bs → IsArranged steps classes (length ts) bs
  is-arranged bs configuration = record {
    as_many = configuration.as_many;
    numbered = configuration.numbered;
    one_class = configuration.one_class;
    along_fields = λ k l s t h i ks lt same_field joined.
        let a = step_from k s ks in
        let b = step_from l t lt in
        configuration.along_fields s.shorter t.shorter k l s.field a.shorter b.shorter a.at b.at a.longer_at
        (b.longer_at ∙ ap (λ f. Some (field b.shorter f)) (sym same_field))
        joined;
  }
