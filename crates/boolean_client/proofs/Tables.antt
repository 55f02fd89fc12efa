-- Tables of facts as they grow.
use Rattle.std.proofs.Common.{◌≡◌, ◌∙◌, ℕ, zero, suc, ◌+◌, ◌-◌, ◌<◌, ◌≤◌, List, [], ◌∷◌, ◌++◌, get_or, length, length-append, ap, refl, sym, subst, arith}
use Rattle.std.proofs.lemmas.Option.{slice_get-get_or}
use Rattle.std.specs.Prelude.{Contains, Some, slice_get}
use Rattle.std.specs.Global.{Vec}
use Rattle.boolean_client.specs.ClauseTables.{AreClauseFacts, AreFactsOf, AreFirstFacts, IsTrueOfEach, clauses_at}
use Rattle.client_facts.specs.Setting.{Setting}
use Rattle.client_facts.specs.declared.fact.Fact.{Fact}

-- exactly the facts that this is true of
abbrev pub AreThose : (Fact → Type 0) → List Fact → Type 0
AreThose R facts = (f : Fact) → (Contains facts f → R f) × (R f → Contains facts f)

each_more : {X : Type 0} (R : ℕ → X → Type 0) (xs : List X) (y : X) → IsTrueOfEach R xs → R (length xs) y → IsTrueOfEach R (xs ++ y ∷ [])
each_more R [] y so last zero x at =
    let same : y ≡ x = cc in
    subst (R 0) same last
each_more R [] y so last (suc number) x at = absurd cc
each_more R (z ∷ xs) y so last zero x at = so zero x at
each_more R (z ∷ xs) y so last (suc number) x at =
    each_more (λ n. R (suc n)) xs y (λ n. so (suc n)) last number x at

pub no_facts : (g : Setting) (call : ℕ) → AreFirstFacts g call 0 []
no_facts g call = record { length_is = refl; each = λ number x at. absurd cc }

pub no_rows : (g : Setting) → AreClauseFacts g 0 []
no_rows g = record { length_is = refl; each = λ number x at. absurd cc }

-- with the facts of the next clause
pub more_facts : (g : Setting) (call many next : ℕ) (row : List (Vec Fact)) (facts : Vec Fact) → next ≡ many + 1 →
    AreFactsOf g call (many + 1) facts.items → AreFirstFacts g call many row → AreFirstFacts g call next (row ++ facts ∷ [])
more_facts g call many next row facts step are before =
    let number : many + 1 ≡ suc (length row) = omega (arith, before.length_is) in
    record {
      length_is = omega (arith, before.length_is, length-append row (facts ∷ []), step);
      each =
          each_more (λ n (v : Vec Fact). AreFactsOf g call (suc n) v.items) row facts before.each
          (subst (λ n. AreFactsOf g call n facts.items) number are);
    }

-- with the facts of the next call
pub more_rows : (g : Setting) (many next : ℕ) (table : List (Vec (Vec Fact))) (row : Vec (Vec Fact)) → next ≡ many + 1 →
    AreFirstFacts g many (clauses_at g many) row.items → AreClauseFacts g many table → AreClauseFacts g next (table ++ row ∷ [])
more_rows g many next table row step are before = record {
  length_is = omega (arith, before.length_is, length-append table (row ∷ []), step);
  each =
      each_more (λ n (v : Vec (Vec Fact)). AreFirstFacts g n (clauses_at g n) v.items) table row before.each
      (subst (λ n. AreFirstFacts g n (clauses_at g n) row.items) (sym before.length_is) are);
}

-- the facts of a clause of the table
pub facts_at : (g : Setting) (many call clause : ℕ) (table : List (Vec (Vec Fact))) (row : Vec (Vec Fact)) (facts : Vec Fact) → call < many → 0 < clause →
    clause ≤ clauses_at g call → row ≡ get_or table call row → facts ≡ get_or row.items (clause - 1) facts → AreClauseFacts g many table →
    AreFactsOf g call clause facts.items
facts_at g many call clause table row facts within first last row_is facts_are so =
    let there : call < length table = omega (arith, so.length_is) in
    let at : slice_get table call ≡ Some row = slice_get-get_or table call row there ∙ ap (λ r. Some r) (sym row_is) in
    let are : AreFirstFacts g call (clauses_at g call) row.items = so.each call row at in
    let inside : clause - 1 < length row.items = omega (arith, are.length_is) in
    let found : slice_get row.items (clause - 1) ≡ Some facts = slice_get-get_or row.items (clause - 1) facts inside ∙ ap (λ v. Some v) (sym facts_are) in
    let number : suc (clause - 1) ≡ clause = omega arith in
    subst (λ n. AreFactsOf g call n facts.items) number (are.each (clause - 1) facts found)
