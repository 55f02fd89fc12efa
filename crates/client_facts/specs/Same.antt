-- Facts that `==` calls equal are one.
use Rattle.std.specs.Prelude.{◌≡◌, true, nat_eq, refl}
use Rattle.std.specs.Cmp.{first_so, second_so}
use Rattle.std.specs.Cmp.Lexicographic.{pointwise}
use Rattle.client_facts.specs.contracts.fact.FactPartialEq.TheImpl as facts
use Rattle.client_facts.specs.declared.fact.Fact.{Fact}
use Rattle.client_facts.specs.declared.fact.Fact.TheVariants.{Always, Of}
use Rattle.cv_fix.specs.Same.{same_list, same_number}

pub same_fact : (f g : Fact) → (facts.ghosts).eq f g ≡ true → f ≡ g
same_fact Always Always h = refl
same_fact Always (Of other codes) h = cc
same_fact (Of family args) Always h = cc
same_fact (Of family args) (Of other codes) h =
    let one = same_number family other (first_so (nat_eq family other) (pointwise nat_eq args codes) h) in
    let same = same_list same_number args codes (second_so (nat_eq family other) (pointwise nat_eq args codes) h) in
    λ i. Of (one i) (same i)
