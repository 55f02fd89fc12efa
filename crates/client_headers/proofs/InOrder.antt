-- The statics and the procedures of items in order.
use Rattle.std.proofs.Common.{◌≡◌, ℕ, zero, suc, Bool, true, false, cond, List, [], ◌∷◌, ap, map, refl, sym, take, ◌∙◌, arith}
use Rattle.std.proofs.lemmas.List.{take_min}
use Rattle.std.proofs.lemmas.List.Recursion.{is_count_by}
use Rattle.std.specs.List.{count_by}
use Rattle.std.proofs.Common.{length, min}
use Rattle.std.specs.Prelude.{not}
use Rattle.client_model.specs.declared.tree.Client.{Client}
use Rattle.client_model.specs.declared.tree.Proc.{Proc}
use Rattle.client_model.specs.declared.tree.Static.{Static}
use Rattle.client_model.specs.Trees.{client_of, items_of, procedure_of, procedures_in, statics_in}

-- how many of these there are
abbrev of_kind : (Bool → Bool) → List Bool → ℕ
of_kind kind [] = 0
of_kind kind (b ∷ bs) = cond (kind b) (suc (of_kind kind bs)) (of_kind kind bs)

counted : (kind : Bool → Bool) (order : List Bool) → of_kind kind order ≡ count_by kind order
counted kind order = is_count_by (of_kind kind) kind refl (λ b bs. ap (λ n. cond (kind b) n (of_kind kind bs)) (omega arith)) order

take_none : {A : Type 0} (k : ℕ) → take {A = A} k [] ≡ []
take_none zero = refl
take_none (suc k) = refl

no_statics : (order : List Bool) (ps : List Proc) → statics_in (items_of order [] ps) ≡ []
no_statics [] ps = refl
no_statics (true ∷ order) ps = no_statics order ps
no_statics (false ∷ order) [] = no_statics order []
no_statics (false ∷ order) (p ∷ ps) = no_statics order ps

statics_are : (order : List Bool) (ss : List Static) (ps : List Proc) → statics_in (items_of order ss ps) ≡ take (of_kind (λ is_static. is_static) order) ss
statics_are [] ss ps = refl
statics_are (true ∷ order) [] ps = no_statics order ps ∙ sym (take_none (of_kind (λ is_static. is_static) (true ∷ order)))
statics_are (true ∷ order) (x ∷ ss) ps = ap (λ xs. x ∷ xs) (statics_are order ss ps)
statics_are (false ∷ order) ss [] = statics_are order ss []
statics_are (false ∷ order) ss (p ∷ ps) = statics_are order ss ps

no_procedures : (order : List Bool) (ss : List Static) → procedures_in (items_of order ss []) ≡ []
no_procedures [] ss = refl
no_procedures (true ∷ order) [] = no_procedures order []
no_procedures (true ∷ order) (x ∷ ss) = no_procedures order ss
no_procedures (false ∷ order) ss = no_procedures order ss

procedures_are : (order : List Bool) (ss : List Static) (ps : List Proc) → procedures_in (items_of order ss ps) ≡ map procedure_of (take (of_kind not order) ps)
procedures_are [] ss ps = refl
procedures_are (true ∷ order) [] ps = procedures_are order [] ps
procedures_are (true ∷ order) (x ∷ ss) ps = procedures_are order ss ps
procedures_are (false ∷ order) ss [] = no_procedures order ss ∙ sym (ap (map procedure_of) (take_none (of_kind not (false ∷ order))))
procedures_are (false ∷ order) ss (p ∷ ps) = ap (λ xs. procedure_of p ∷ xs) (procedures_are order ss ps)

pub statics_listed : (c : Client) (n : ℕ) → n ≡ min (count_by (λ is_static. is_static) c.order) (length c.statics) → take n c.statics ≡ statics_in (client_of c).items
statics_listed c n is =
    ap (λ k. take k c.statics) is ∙ take_min (count_by (λ is_static. is_static) c.order) c.statics
    ∙ ap (λ k. take k c.statics) (sym (counted (λ is_static. is_static) c.order)) ∙ sym (statics_are c.order c.statics c.procedures)

pub procedures_listed : (c : Client) (n : ℕ) → n ≡ min (count_by not c.order) (length c.procedures) → map procedure_of (take n c.procedures) ≡ procedures_in (client_of c).items
procedures_listed c n is =
    ap (λ k. map procedure_of (take k c.procedures)) is ∙ ap (map procedure_of) (take_min (count_by not c.order) c.procedures)
    ∙ ap (λ k. map procedure_of (take k c.procedures)) (sym (counted not c.order)) ∙ sym (procedures_are c.order c.statics c.procedures)
