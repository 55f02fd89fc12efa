-- The graph, table by table.
use Rattle.std.proofs.Common.{◌≡◌, ℕ, zero, suc, ◌+◌, ◌≤◌, List, [], ◌∷◌, ◌++◌, length, map, take, refl, sym, ap, ◌∙◌, arith}
use Rattle.std.specs.Prelude.{Some, option_and_then, slice_get}
use Rattle.std.proofs.lemmas.List.{take_all}
use Rattle.std.proofs.lemmas.Simd.{map-map}
use Rattle.client_model.specs.Program as told
use Rattle.client_model.specs.Checked.{procedure_seen, seen}
use Rattle.client_model.specs.CheckedForm.{ClientForm, ProcedureForm}
use Rattle.flow_graph.specs.Points.{graph_of, next_in, ways_at}

same_some : {A : Type 0} (x y : A) → Some x ≡ Some y → x ≡ y
same_some x y is = cc

take_next : {A B : Type 0} (f : A → B) (xs : List A) (n : ℕ) (x : A) → slice_get xs n ≡ Some x → map f (take n xs) ++ f x ∷ [] ≡ map f (take (suc n) xs)
take_next f [] zero x is = absurd cc
take_next f [] (suc n) x is = absurd cc
take_next f (y ∷ ys) zero x is = ap (λ z. f z ∷ []) (sym (same_some y x is))
take_next f (y ∷ ys) (suc n) x is = ap (λ l. f y ∷ l) (take_next f ys n x is)

-- one more table
pub one_more : {A B : Type 0} (f : A → B) (xs : List A) (n : ℕ) (x : A) (made : List B) (y : B) → slice_get xs n ≡ Some x → y ≡ f x →
    made ≡ map f (take n xs) → made ++ y ∷ [] ≡ map f (take (n + 1) xs)
one_more f xs n x made y is same so =
    let next : suc n ≡ n + 1 = omega arith in
    (λ i. so i ++ same i ∷ []) ∙ (take_next f xs n x is ∙ ap (λ k. map f (take k xs)) next)

-- tables of as many procedures as there are
pub all_made : (client : told.ClientForm) (made : List (List (ℕ × ℕ))) (n : ℕ) → length client.procedures ≤ n →
    made ≡ map (λ p. next_in (procedure_seen p)) (take n client.procedures) → made ≡ graph_of (seen client)
all_made client made n all so =
    so ∙ (ap (map (λ p. next_in (procedure_seen p))) (take_all n client.procedures all) ∙ sym (map-map next_in procedure_seen client.procedures))

ways_in_tables : (xs : List ProcedureForm) (p number : ℕ) →
    option_and_then (λ t. slice_get t number) (slice_get (map next_in xs) p) ≡ option_and_then (λ x. slice_get (next_in x) number) (slice_get xs p)
ways_in_tables [] zero number = refl
ways_in_tables [] (suc p) number = refl
ways_in_tables (x ∷ xs) zero number = refl
ways_in_tables (x ∷ xs) (suc p) number = ways_in_tables xs p number

-- what the graph of a client tells of a point
pub ways_by_graph : (client : ClientForm) (p number : ℕ) →
    option_and_then (λ t. slice_get t number) (slice_get (graph_of client) p) ≡ ways_at client p number
ways_by_graph client p number = ways_in_tables client.procedures p number
