-- Slots that hold objects of their classes, and what is reached from them.
use Rattle.std.proofs.Common.{◌≡◌, ℕ, zero, suc, ◌<◌, false, List, [], ◌∷◌, length, map, fold, refl, ap, sym, subst, ◌∙◌}
use Rattle.std.specs.Prelude.{Option, Some, None, slice_get, slice_index}
use Rattle.std.specs.List.{AllZip}
use Rattle.std.specs.Option.{option_and_then, option_flatten}
use Rattle.easl_model.specs.{Gives, IsOf, IsReady, OfMade, Standing, Takes, class_at, class_behind, fields_of, is_among, taken_by}
use Rattle.easl_model.specs.Form.{Form}
use Rattle.easl_model.specs.Typed.{IsReadable}
use Rattle.easl_model.specs.declared.form.Reach.{Reach}
use Rattle.easl_model.specs.declared.form.Source.{Source}
use Rattle.easl_model.specs.declared.form.Source.TheVariants as source
use Rattle.easl_heap.specs.{FieldsLead, IsObjectOf, Making, Object, argument, get, moment, reached}
use Rattle.easl_heap.specs.Body as told
use Rattle.easl_heap.proofs.Whole.{AreShaped, IsWhole, Keeps, keeps_same, whole, whole_field, whole_object}

-- `this` is an object of its class, whole but for its unset fields, and each slot of a class holds a whole object of it
pub record Holds (form : Form) (s : Standing) (class this : ℕ) (heap : List Object) (slots : List ℕ) : Type 0 where
  pub shaped : AreShaped form heap
  pub first : slice_index slots 0 ≡ this
  pub own : slice_get s.slots 0 ≡ Some (Some class)
  pub many : length slots ≡ length s.slots
  pub object : IsObjectOf heap class this
  pub fields : (p of : ℕ) → slice_get (fields_of form class) p ≡ Some of → is_among s.unset p ≡ false → IsWhole form heap of (get heap this p)
  pub held : (k of : ℕ) → slice_get s.slots (suc k) ≡ Some (Some of) → IsWhole form heap of (slice_index slots (suc k))

pub lead : (form : Form) (ps : List ℕ) (class end : ℕ) → class_behind form class ps ≡ Some end → FieldsLead form class ps end
lead form [] class end e = let same : class ≡ end = cc in same
lead form (p ∷ ps) class end e = by (slice_get (fields_of form class) p) refl e (λ next is. lead form ps next end is)
  where
    by : (o : Option ℕ) → slice_get (fields_of form class) p ≡ o → option_and_then (λ next. class_behind form next ps) o ≡ Some end
        → ((next : ℕ) → class_behind form next ps ≡ Some end → FieldsLead form next ps end) → FieldsLead form class (p ∷ ps) end
    by None found is later = absurd cc
    by (Some next) found is later = (next, found, later next is)

whole_behind : (form : Form) (heap : List Object) (ps : List ℕ) (class n end : ℕ) → IsWhole form heap class n → FieldsLead form class ps end
    → IsWhole form heap end (fold (get heap) n ps)
whole_behind form heap [] class n end w leads = subst (λ c. IsWhole form heap c n) leads w
whole_behind form heap (p ∷ ps) class n end w leads =
    whole_behind form heap ps leads.0 (get heap n p) end (whole_field form heap class n p leads.0 w leads.1) leads.2

-- the class of a slot through which something is reached
pub slot_of : (form : Form) (s : Standing) (r : Reach) (end : ℕ) → class_at form s r ≡ Some end
    → (start : ℕ) × (slice_get s.slots r.slot ≡ Some (Some start)) × FieldsLead form start r.fields end
slot_of form s r end e = by (slice_get s.slots r.slot) refl e
  where
    by : (o : Option (Option ℕ)) → slice_get s.slots r.slot ≡ o → option_and_then (λ class. class_behind form class r.fields) (option_flatten o) ≡ Some end
        → (start : ℕ) × (slice_get s.slots r.slot ≡ Some (Some start)) × FieldsLead form start r.fields end
    by None found is = absurd cc
    by (Some None) found is = absurd cc
    by (Some (Some start)) found is = (start, found, lead form r.fields start end is)

-- what a constructor is given
abbrev pub IsTaken : Form → List Object → Option ℕ → ℕ → Type 0
IsTaken form heap None n = Unit {0}
IsTaken form heap (Some class) n = IsWhole form heap class n

-- a construction of the class keeps what is whole, and gives a whole object
abbrev pub Makes : Form → Making → ℕ → Type 0
Makes form make class = (args : List ℕ) (heap : List Object) (steps : ℕ) → AreShaped form heap → AllZip (IsTaken form heap) (taken_by form class) args
    → Keeps form heap (make class args heap steps).heap × IsWhole form (make class args heap steps).heap class (make class args heap steps).result

module _ (form : Form) (s : Standing) (class this : ℕ) (heap : List Object) (slots : List ℕ) (t : Holds form s class this heap slots) where
  own_class : (start : ℕ) → slice_get s.slots 0 ≡ Some (Some start) → class ≡ start
  own_class start at = let e : Some (Some class) ≡ Some (Some start) = sym t.own ∙ at in let same : class ≡ start = cc in same

  pub all_set : s.unset ≡ [] → IsWhole form heap class this
  all_set none = whole form heap class this t.object (λ p of at. t.fields p of at (ap (λ us. is_among us p) none))

  own_behind : (p : ℕ) (ps : List ℕ) (end : ℕ) → is_among s.unset p ≡ false → FieldsLead form class (p ∷ ps) end
      → IsWhole form heap end (fold (get heap) this (p ∷ ps))
  own_behind p ps end set leads = whole_behind form heap ps leads.0 (get heap this p) end (t.fields p leads.0 leads.1 set) leads.2

  -- what is given is a whole object
  given_whole : (r : Reach) (end : ℕ) → Gives form s r end → IsWhole form heap end (reached heap slots r)
  given_whole r end g = let x = slot_of form s r end g.of in by r.slot r.fields x.0 x.1 x.2 g.ready
    where
      by : (slot : ℕ) (ps : List ℕ) (start : ℕ) → slice_get s.slots slot ≡ Some (Some start) → FieldsLead form start ps end → IsReady s.unset slot ps
          → IsWhole form heap end (fold (get heap) (slice_index slots slot) ps)
      by zero [] start at leads ready =
          subst (λ o. IsWhole form heap end o) (sym t.first) (subst (λ c. IsWhole form heap c this) (own_class start at ∙ leads) (all_set ready))
      by zero (p ∷ ps) start at leads ready =
          subst (λ o. IsWhole form heap end (fold (get heap) o (p ∷ ps))) (sym t.first)
          (own_behind p ps end ready (subst (λ c. FieldsLead form c (p ∷ ps) end) (sym (own_class start at)) leads))
      by (suc k) ps start at leads ready = whole_behind form heap ps start (slice_index slots (suc k)) end (t.held k start at) leads

  -- what is read is an object
  pub read_object : (r : Reach) (end : ℕ) → class_at form s r ≡ Some end → IsReadable s.unset r.slot r.fields → IsObjectOf heap end (reached heap slots r)
  read_object r end of read = let x = slot_of form s r end of in by r.slot r.fields x.0 x.1 x.2 read
    where
      by : (slot : ℕ) (ps : List ℕ) (start : ℕ) → slice_get s.slots slot ≡ Some (Some start) → FieldsLead form start ps end
          → IsReadable s.unset slot ps → IsObjectOf heap end (fold (get heap) (slice_index slots slot) ps)
      by zero [] start at leads read =
          subst (λ o. IsObjectOf heap end o) (sym t.first) (subst (λ c. IsObjectOf heap c this) (own_class start at ∙ leads) t.object)
      by zero (p ∷ ps) start at leads read =
          whole_object form heap end (fold (get heap) (slice_index slots 0) (p ∷ ps))
          (subst (λ o. IsWhole form heap end (fold (get heap) o (p ∷ ps))) (sym t.first)
          (own_behind p ps end read (subst (λ c. FieldsLead form c (p ∷ ps) end) (sym (own_class start at)) leads)))
      by (suc k) ps start at leads read =
          whole_object form heap end _ (whole_behind form heap ps start (slice_index slots (suc k)) end (t.held k start at) leads)

  arguments_whole : (taken : List (Option ℕ)) (args : List (Option Reach)) → AllZip (Takes form s) taken args
      → AllZip (IsTaken form heap) taken (map (argument heap slots) args)
  arguments_whole [] [] zip = tt
  arguments_whole [] (a ∷ args) zip = absurd zip
  arguments_whole (o ∷ taken) [] zip = absurd zip
  arguments_whole (None ∷ taken) (a ∷ args) zip = (tt, arguments_whole taken args zip.1)
  arguments_whole (Some of ∷ taken) (None ∷ args) zip = absurd zip.0
  arguments_whole (Some of ∷ taken) (Some r ∷ args) zip = (given_whole r of zip.0, arguments_whole taken args zip.1)

  -- a value keeps what is whole, and gives a whole object of its class
  pub value_keeps : (make : Making) (Q : ℕ → Type 0) → ((k : ℕ) → k < length form.classes → Q k → Makes form make k)
      → (v : Source) (of steps : ℕ) → OfMade Q v → IsOf form s v of
      → Keeps form heap (told.value make v (moment heap slots steps)).heap
      × IsWhole form (told.value make v (moment heap slots steps)).heap of (told.value make v (moment heap slots steps)).result
  value_keeps make Q makes (source.Reach r) of steps q is = (keeps_same form heap, given_whole r of is)
  value_keeps make Q makes (source.Make made args) of steps q is =
      let objects = map (argument heap slots) args in
      let last = make made objects heap steps in
      let done = makes made is.1 q objects heap steps t.shaped (arguments_whole (taken_by form made) args is.2) in
      (done.0, subst (λ c. IsWhole form last.heap c last.result) is.0 done.1)
