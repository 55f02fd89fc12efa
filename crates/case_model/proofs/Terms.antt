-- Terms as they are compared, and where they lead in a full heap.
use Rattle.std.proofs.Common.{◌≡◌, ℕ, true, length, List, [], ◌∷◌, Contains, Option, Some, fold, refl, ap, sym, subst, ◌∙◌, append-nil}
use Rattle.std.specs.Prelude.{slice_get, slice_index}
use Rattle.std.specs.Cmp.Lexicographic.{slice_cmp}
use Rattle.std.specs.Ordering.{is_eq, nat_cmp, ordering_then}
use Rattle.std.specs.declared.cmp.Ordering.{Ordering}
use Rattle.std.specs.declared.cmp.Ordering.TheVariants.{Less, Equal, Greater}
use Rattle.std.proofs.lemmas.Cmp.{tied_itself}
use Rattle.std.proofs.lemmas.Map.Lookups.{exact_bytes, exact_unsigned}
use Rattle.std.proofs.lemmas.Option.{get_or_from_slice_get, slice_get-get_or}
use Rattle.std.proofs.lemmas.List.Sums.{fold-append}
use Rattle.easl_model.specs.Form.{Form}
use Rattle.easl_heap.specs.{IsFull, IsGiven, IsObjectOf, Object, get}
use Rattle.easl_model.proofs.Items.{zip_from}
use Rattle.easl_heap.proofs.FullHeaps.{full_whole}
use Rattle.access_paths.specs.{AreObjects, IsTermOf, compare_terms, field, object_of, term}
use Rattle.access_paths.specs.declared.term.Term.{Term}
use Rattle.access_paths.proofs.Orders.{terms_total}
use Rattle.case_model.specs.{AreTermsOf, HasTerms, place_of}
use Rattle.case_model.proofs.Places.{any-get, place-found}

both_equal : (o p : Ordering) → is_eq (ordering_then o p) ≡ true → (o ≡ Equal) × (p ≡ Equal)
both_equal Less p h = absurd (cc)
both_equal Equal Less h = absurd (cc)
both_equal Equal Equal h = (refl, refl)
both_equal Equal Greater h = absurd (cc)
both_equal Greater p h = absurd (cc)

pub same_term : (t u : Term) → is_eq (compare_terms t u) ≡ true → t ≡ u
same_term t u h =
    let variables = nat_cmp t.var.0 u.var.0 in
    let fields = slice_cmp nat_cmp t.fields u.fields in
    let all = both_equal (nat_cmp (length t.fields) (length u.fields)) (ordering_then variables fields) h in
    let rest = both_equal variables fields (ap is_eq all.1) in
    let v = exact_unsigned t.var.0 u.var.0 rest.0 in
    let f = exact_bytes t.fields u.fields rest.1 in
    λ i. term (v i) (f i)

pub term_same : (t : Term) → is_eq (compare_terms t t) ≡ true
term_same t = ap is_eq (tied_itself terms_total t)

-- a term of the list is found where it stands
pub found_at : (ts : List Term) (t : Term) → Contains ts t → slice_get ts (place_of ts t) ≡ Some t
found_at ts t has =
    let at : slice_get ts has.0 ≡ Some t = slice_get-get_or ts has.0 t has.1 ∙ ap Some has.2 in
    let f = place-found (λ u. is_eq (compare_terms t u)) ts (any-get (λ u. is_eq (compare_terms t u)) ts has.0 t at (term_same t)) in
    f.1 ∙ ap Some (sym (same_term t f.0 f.2))

-- the list has what is asked
pub asked_are_there : (asked ts : List Term) → AreTermsOf asked ts → HasTerms ts asked
asked_are_there asked ts are t there = (are.holds t).1 (t, there, (refl, ([], sym (append-nil t.fields))))

pub object_of-field : (heap : List Object) (objects : List ℕ) (t : Term) (f : ℕ) → object_of heap objects (field t f) ≡ get heap (object_of heap objects t) f
object_of-field heap objects t f = fold-append (get heap) (slice_index objects t.var.0) t.fields (f ∷ [])

-- a term's object is of its class
pub leads_to : (form : Form) (variables : List (Option ℕ)) (heap : List Object) (objects : List ℕ) (t : Term) (class : ℕ)
    → IsFull form heap → AreObjects heap variables objects → IsTermOf form variables t class → IsObjectOf heap class (object_of heap objects t)
leads_to form variables heap objects t class full given has =
    let o = zip_from (IsGiven heap) variables objects t.var.0 (Some has.start) given has.variable in
    let e : slice_index objects t.var.0 ≡ o.0 = get_or_from_slice_get objects t.var.0 o.0 0 o.1 in
    subst (λ n. IsObjectOf heap class (fold (get heap) n t.fields)) (sym e) ((full_whole form heap has.start o.0 full o.2).leads t.fields class has.leads)
