-- The configurations of all terms, and that they are more than there are of the first ones.
use Rattle.std.proofs.Common.{◌≡◌, ℕ, zero, suc, ◌+◌, ◌<◌, List, length, Option, slice_index, slice_index_or, arith, ap, subst}
use Rattle.std.specs.Cmp.Lexicographic.{slice_cmp}
use Rattle.std.specs.Ordering.{nat_cmp}
use Rattle.std.proofs.lemmas.Cmp.{nat_list_cmp_total, tied_itself}
use Rattle.easl_model.proofs.Items.{item_at}
use Rattle.access_paths.specs.declared.term.Term.{Term}
use Rattle.case_model.specs.{AreConfigurations, AreMoreThan, IsConfiguration, IsTermList}
use Rattle.alias_cases.specs.{AreSteps, next_level}
use Rattle.alias_cases.specs.declared.steps.Step.{Step}
use Rattle.alias_cases.proofs.Arranged.{IsArranged, IsBefore, IsLevel}
use Rattle.alias_cases.proofs.Ladders.{arranged-is, as_many_steps, is-arranged, ladder}
use Rattle.alias_cases.proofs.Levels.{level_more, level_next}
use Rattle.alias_cases.proofs.Lists.{all-each, contains-in, each-from, each-in, in-contains, rises-pairs}

module _ (ts : List Term) (classes : List ℕ) (is : IsTermList ts classes) (steps : List (Option Step)) (are : AreSteps ts steps) where
  pub level_whole : (level : List (List ℕ)) → IsLevel steps classes (length ts) level → AreConfigurations ts classes level
  level_whole level whole = record {
    ordered = rises-pairs IsBefore level whole.ordered;
    holds = λ bs. (
      (λ there. arranged-is ts classes is steps are bs (each-in (IsArranged steps classes (length ts)) level bs whole.are (contains-in level bs there))),
      (λ configuration. in-contains level bs (whole.whole bs (is-arranged ts classes is steps are bs configuration))),
    );
  }

  -- where there are more of the first terms, there are more of all
  pub level_many : (most left n : ℕ) (level : List (List ℕ)) → n + left ≡ length ts → IsLevel steps classes n level → most < length level
      → AreMoreThan most ts classes
  level_many most zero n level all whole many =
      let e : n ≡ length ts = omega (arith, all) in
      let last = subst (λ k. IsLevel steps classes k level) e whole in
      record {
        some = level;
        different = λ i j d before within same.
            let less = rises-pairs IsBefore level last.ordered i j d before within in
            let tied = tied_itself nat_list_cmp_total (slice_index_or level i d) in
            let other = ap (slice_cmp nat_cmp (slice_index_or level i d)) same in
            cc;
        are = all-each (IsConfiguration ts classes) level
            (each-from (IsConfiguration ts classes) level
            (λ bs h. arranged-is ts classes is steps are bs (each-in (IsArranged steps classes (length ts)) level bs last.are h)));
        many = many;
      }
  level_many most (suc left) n level all whole many =
      let own = item_at steps n (omega (arith, all, as_many_steps ts classes is steps are)) in
      level_many most left (suc n) (next_level steps classes own.0 (slice_index classes n) level) (omega (arith, all))
      (level_next steps classes (ladder ts classes is steps are) n own.0 level own.1 whole)
      (omega (arith, many, level_more steps classes own.0 (slice_index classes n) level))
