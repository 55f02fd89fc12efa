-- The least of the instances, over all orders of the variables.
use Rattle.std.proofs.Common.{inl, inr, ◌≡◌, ◌≢◌, ℕ, ◌+◌, ◌<◌, ◌≤◌, Bool, true, false, List, [], ◌∷◌, ◌++◌, length, map, take, get_or, All, Contains, if◌then◌else◌, subst, arith, refl, ap, sym, ◌∙◌}
use Rattle.std.proofs.Math.Seq.{take-length}
use Rattle.std.proofs.lemmas.Cmp.{tied_itself}
use Rattle.std.proofs.lemmas.List.{length-map, take_more}
use Rattle.std.proofs.lemmas.List.Elements.{Contains-push_cases}
use Rattle.std.specs.Ordering.{is_lt}
use Rattle.std.specs.declared.cmp.Ordering.TheVariants.{Less, Equal}
use Rattle.access_paths.proofs.Ascending.{less_is}
use Rattle.access_paths.proofs.Instances.{one_instance}
use Rattle.access_paths.proofs.Members.{no_member}
use Rattle.access_paths.proofs.Orders.{instances_total}
use Rattle.access_paths.proofs.Permuted.{all_orders, each_order}
use Rattle.access_paths.proofs.Substituted.{all_members}
use Rattle.access_paths.proofs.Variables.{few_variables, variables_listed}
use Rattle.access_paths.specs.{AreArguments, HasKnownVariables, IsFamilyOf, IsInstance, IsLeastAmong, compare_instances, orders, var, variables}
use Rattle.access_paths.specs.declared.term.Cube.{Cube}
use Rattle.access_paths.specs.declared.term.Instance.{Instance}
use Rattle.access_paths.specs.declared.term.Var.{Var}

module _ (c : Cube) (of : List ℕ) where
  -- nothing is asked of no lists
  pub least_of_none : (lists : List (List Var)) (i : Instance) → IsInstance c of i → IsLeastAmong c of (take 0 lists) i
  least_of_none lists i is = record { instance = is; least = λ j j_is there. absurd (no_member j.args there) }

  least_over : (lists : List (List Var)) (k : ℕ) (args : List Var) (i m : Instance) → k < length lists → args ≡ get_or lists k args → IsInstance c of m
      → ((j : Instance) → IsInstance c of j → Contains (take k lists) j.args → compare_instances j m ≢ Less)
      → ((j : Instance) → IsInstance c of j → j.args ≡ args → compare_instances j m ≢ Less)
      → IsLeastAmong c of (take (k + 1) lists) m
  least_over lists k args i m within at is before here = record {
    instance = is;
    least = λ j j_is there.
        let P : List (List Var) → Type 0 = λ ls. Contains ls j.args in
        let now : take (k + 1) lists ≡ take k lists ++ args ∷ [] = take_more lists k args within ∙ ap (λ list. take k lists ++ list ∷ []) (sym at) in
        elim (Contains-push_cases (take k lists) args j.args (subst P now there)) [ inl earlier ↦ before j j_is earlier | inr last ↦ here j j_is (sym last) ];
  }

  -- the lesser of the least so far and the next
  pub least_of_more : (lists : List (List Var)) (k : ℕ) (args : List Var) (i j m : Instance) → k < length lists → args ≡ get_or lists k args
      → IsLeastAmong c of (take k lists) i → IsInstance c of j → j.args ≡ args → m ≡ (if is_lt (compare_instances j i) then j else i)
      → IsLeastAmong c of (take (k + 1) lists) m
  least_of_more lists k args i j m within at is j_is j_args which =
      let P : Instance → Type 0 = IsLeastAmong c of (take (k + 1) lists) in
      subst P (sym which) (by_order (is_lt (compare_instances j i)) refl)
    where
      one : (n : Instance) → IsInstance c of n → n.args ≡ args → n ≡ j
      one n n_is n_args = one_instance c of n j n_is j_is (n_args ∙ sym j_args)

      by_order : (b : Bool) → is_lt (compare_instances j i) ≡ b → IsLeastAmong c of (take (k + 1) lists) (if b then j else i)
      by_order true less =
          least_over lists k args i j within at j_is
          (λ n n_is there lesser. is.least n n_is there (instances_total.trans n j i lesser (less_is (compare_instances j i) less)))
          (λ n n_is n_args lesser.
          let tied : compare_instances n j ≡ Equal = ap (λ o. compare_instances o j) (one n n_is n_args) ∙ tied_itself instances_total j in
          let clash : Less ≡ Equal = sym lesser ∙ tied in
          cc)
      by_order false not_less =
          least_over lists k args i i within at is.instance is.least
          (λ n n_is n_args lesser.
          let less : compare_instances j i ≡ Less = ap (λ o. compare_instances o i) (sym (one n n_is n_args)) ∙ lesser in
          let clash : true ≡ false = sym (ap is_lt less) ∙ not_less in
          cc)

  pub least_of_all : (lists : List (List Var)) (k : ℕ) (i : Instance) → length lists ≤ k → k ≤ length lists
      → IsLeastAmong c of (take k lists) i → IsLeastAmong c of lists i
  least_of_all lists k i up down is =
      let end : k ≡ length lists = omega arith in
      let P : List (List Var) → Type 0 = λ ls. IsLeastAmong c of ls i in
      subst P (ap (λ n. take n lists) end ∙ take-length lists) is

  module _ (known : HasKnownVariables c) where
    -- each order of the variables is a list of arguments
    pub orders_are_arguments : All (λ args. AreArguments c args × (length args ≤ 8)) (orders (map var (variables c)))
    orders_are_arguments =
        let listed = variables_listed c known in
        all_members (λ args. AreArguments c args × (length args ≤ 8)) (orders (map var (variables c)))
        (λ args there.
        let is = each_order (map var (variables c)) args listed.once there in
        let few = few_variables c in (
          record {
            once = is.distinct;
            arguments = λ v. (λ in_args. (listed.arguments v).0 ((is.members v).0 in_args), λ has_it. (is.members v).1 ((listed.arguments v).1 has_it));
          },
          omega (arith, is.as_long),
        ))

    order_of : (i : Instance) → IsInstance c of i → Contains (orders (map var (variables c))) i.args
    order_of i is =
        let listed = variables_listed c known in
        all_orders (map var (variables c)) i.args listed.once is.once
        (λ v. (λ in_args. (listed.arguments v).1 ((is.arguments v).0 in_args), λ in_list. (is.arguments v).1 ((listed.arguments v).0 in_list)))

    -- the least over all orders is the family
    pub least_is_family : (i : Instance) → IsLeastAmong c of (orders (map var (variables c))) i → IsFamilyOf c of i
    least_is_family i is = record { instance = is.instance; least = λ j j_is. is.least j j_is (order_of j j_is) }

    -- there are as many arguments as variables
    pub as_many_arguments : (i : Instance) → IsInstance c of i → length i.args ≡ length (variables c)
    as_many_arguments i is =
        (each_order (map var (variables c)) i.args (variables_listed c known).once (order_of i is)).as_long ∙ length-map (variables c) var
