-- The names of a procedure that are set are known at each point and at its exit.
use Rattle.std.proofs.Common.{◌≡◌, ◌∙◌, ℕ, zero, suc, ◌+◌, List, [], ◌∷◌, length, map, All, ap, subst, sym, arith}
use Rattle.std.specs.Prelude.{Option, Some, None, IfSome, filter_map, flat_map, option_map, slice_get}
use Rattle.std.specs.List.{cons_option}
use Rattle.std.proofs.lemmas.List.{length-append, length-map}
use Rattle.std.proofs.lemmas.Option.{get_or_from_slice_get, slice_get-map, slice_get_within}
use Rattle.client_model.specs.Program as told
use Rattle.client_model.specs.declared.form.Procedure.{Procedure as Held}
use Rattle.client_model.specs.Bodies.{Body, all_in, bodies_of, codes_of}
use Rattle.client_model.specs.Checked.{IsFitting, procedure_seen, seen}
use Rattle.client_model.specs.CheckedForm.{ProcedureForm, call_of_main, form_by, form_of, in_start, procedure_form, start_form}
use Rattle.client_model.specs.Points.{point_of, set_at, set_at_exit}
use Rattle.client_model.specs.Settings.{setting_of}
use Rattle.client_model.specs.Trees.{Client, Initialiser, Item, Proc, Procedure, procedures_in}
use Rattle.easl_model.specs.Form.{Form}

abbrev IsLong : ProcedureForm → Type 0
IsLong x = length x.set ≡ length x.points + 1

abbrev AreLong : List ProcedureForm → Type 0
AreLong xs = (k : ℕ) (x : ProcedureForm) → slice_get xs k ≡ Some x → IsLong x

long_form : (form : Form) (b : Body) (p : Proc) → IsLong (procedure_form form b p)
long_form form b p =
    let whole = all_in b in
    omega (arith, length-map whole set_at, length-map whole point_of, length-append (map set_at whole) (set_at_exit b ∷ []))

long_start : (form : Form) (client : Client) → IsLong (start_form form client)
long_start form client =
    let initial = flat_map (λ b. in_start b b.item) (bodies_of form client) in
    let statics = codes_of (setting_of form client).statics in
    let call = call_of_main 1 (procedures_in client.items) in
    let sets = length-append (map set_at initial) (statics ∷ statics ∷ []) in
    let points = length-append (map point_of initial) (call ∷ []) in
    omega (arith, length-map initial set_at, length-map initial point_of, sets, points)

put : (made : Option ProcedureForm) (xs : List ProcedureForm) → IfSome made IsLong → AreLong xs → AreLong (cons_option made xs)
put None xs long all k x is = all k x is
put (Some x) xs long all zero y is = let one : x ≡ y = cc in subst IsLong one long
put (Some x) xs long all (suc k) y is = all k y is

by_item : (form : Form) (b : Body) (item : Item) → IfSome (form_by form b item) IsLong
by_item form b (Initialiser x) = tt
by_item form b (Procedure p) = long_form form b p

in_bodies : (form : Form) (bodies : List Body) → AreLong (filter_map (λ b. form_by form b b.item) bodies)
in_bodies form [] k x is = cc
in_bodies form (b ∷ bodies) k x is =
    put (form_by form b b.item) (filter_map (λ b. form_by form b b.item) bodies) (by_item form b b.item) (in_bodies form bodies) k x is

in_form : (form : Form) (client : Client) → AreLong (form_of form client).procedures
in_form form client =
    put (Some (start_form form client)) (filter_map (λ b. form_by form b b.item) (bodies_of form client))
    (long_start form client) (in_bodies form (bodies_of form client))

pub sets_long : (form : Form) (c : told.ClientForm) → IsFitting form c → (k : ℕ) (x : Held) → slice_get c.procedures k ≡ Some x →
    length x.set ≡ length x.points + 1
sets_long form c fits k x is =
    let at : slice_get (seen c).procedures k ≡ Some (procedure_seen x) = slice_get-map procedure_seen c.procedures k ∙ ap (option_map procedure_seen) is in
    subst AreLong (sym (ap (λ d. d.procedures) fits.is)) (in_form form fits.client) k (procedure_seen x) at

-- what is said of each is said of this one
pub said_of : {X : Type 0} (P : X → Type 0) (xs : List X) (k : ℕ) (x : X) → All P xs → slice_get xs k ≡ Some x → P x
said_of P xs k x all is = subst P (get_or_from_slice_get xs k x x is) (all k x (slice_get_within xs k x is))
