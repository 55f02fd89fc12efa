use Rattle.std.proofs.Common.{rules, ◌≡◌, true, false}
use Rattle.access_paths.specs.{tree_of}
use Rattle.cube_cover.specs.{IsTaskOf, configurations_at, cubes_of, everywhere, literals_over}
use Rattle.cube_search.specs.Truths.{IsRowOf}
use Rattle.cube_cover.proofs.Ending.{all_together, falls_short, named_are, not_short, numbers_within, the_disjuncts}
use Rattle.cube_cover.proofs.Standing.{as_long, as_many, none_empty}
use Rattle.cube_cover.proofs.cover.disjuncts.Goals as goal

pub literals_over-requires : goal.literals_over-requires
literals_over-requires c =
    rw (c.as_slice.ensures, c.as_slice-terms.ensures) (as_many c.args.cases.now.terms.list c.args.cases.now.terms.classes c.requires.cases.term_list)

pub disjuncts-requires : goal.disjuncts-requires
disjuncts-requires c =
    let ts = c.args.cases.now.terms.list in
    let classes = c.args.cases.now.terms.classes in
    let care = configurations_at c.args.cases.now.list c.args.care.now in
    let tree = tree_of c.args.tree.now in
    let made : IsTaskOf ts care tree (literals_over ts classes) c.in_ok-task.task =
    rw (c.deref.ensures.value, c.in_ok-literals.ensures, c.as_slice-terms.ensures, c.as_slice-list.ensures, c.as_slice.ensures) at c.in_ok-task.ensures in
    let row : IsRowOf (everywhere false care) c.in_ok-none.none = rw (c.as_slice-list.ensures) at c.in_ok-none.ensures in
    record {
      empty = none_empty ts classes c.requires.cases.term_list care (named_are ts classes c.args.cases.now.list c.args.care.now c.requires.cases.whole c.requires.care) tree
          c.in_ok-task.task made c.in_ok-none.none row;
      long = as_long ts classes c.requires.cases.term_list care (named_are ts classes c.args.cases.now.list c.args.care.now c.requires.cases.whole c.requires.care) tree
          c.in_ok-task.task made c.in_ok-none.none row;
    }

pub cubes_of-requires : goal.cubes_of-requires
cubes_of-requires c =
    let ts = c.args.cases.now.terms.list in
    let classes = c.args.cases.now.terms.classes in
    let care = configurations_at c.args.cases.now.list c.args.care.now in
    let tree = tree_of c.args.tree.now in
    let made : IsTaskOf ts care tree (literals_over ts classes) c.in_ok-task.task =
    rw (c.deref.ensures.value, c.in_ok-literals.ensures, c.as_slice-terms.ensures, c.as_slice-list.ensures, c.as_slice.ensures) at c.in_ok-task.ensures in
    let row : IsRowOf (everywhere false care) c.in_ok-none.none = rw (c.as_slice-list.ensures) at c.in_ok-none.ensures in
    rw (c.deref-2.ensures.value, c.deref-3.ensures.value, c.in_ok-literals.ensures, c.as_slice-terms.ensures, c.as_slice.ensures)
    (numbers_within ts classes c.requires.cases.term_list care (named_are ts classes c.args.cases.now.list c.args.care.now c.requires.cases.whole c.requires.care) tree
    c.in_ok-task.task made c.in_ok-none.none row c.in_ok-choice.choice.cubes.items c.in_ok-choice.ensures.chosen)

pub returns-clause-chosen : goal.returns-clause-chosen
returns-clause-chosen c =
    let ts = c.args.cases.now.terms.list in
    let classes = c.args.cases.now.terms.classes in
    let care = configurations_at c.args.cases.now.list c.args.care.now in
    let tree = tree_of c.args.tree.now in
    let made : IsTaskOf ts care tree (literals_over ts classes) c.in_ok-task.task =
    rw (c.deref.ensures.value, c.in_ok-literals.ensures, c.as_slice-terms.ensures, c.as_slice-list.ensures, c.as_slice.ensures) at c.in_ok-task.ensures in
    let row : IsRowOf (everywhere false care) c.in_ok-none.none = rw (c.as_slice-list.ensures) at c.in_ok-none.ensures in
    rw (c.in_ok-cubes_of.ensures, c.deref-2.ensures.value, c.deref-3.ensures.value, c.in_ok-literals.ensures, c.as_slice-terms.ensures, c.as_slice.ensures)
    (the_disjuncts ts classes c.requires.cases.term_list care (named_are ts classes c.args.cases.now.list c.args.care.now c.requires.cases.whole c.requires.care) tree
    c.in_ok-task.task made c.in_ok-none.none row c.in_ok-choice.choice.cubes.items c.in_ok-choice.ensures.chosen)

pub returns-clause-whole : goal.returns-clause-whole
returns-clause-whole c =
    let ts = c.args.cases.now.terms.list in
    let classes = c.args.cases.now.terms.classes in
    let care = configurations_at c.args.cases.now.list c.args.care.now in
    let tree = tree_of c.args.tree.now in
    let made : IsTaskOf ts care tree (literals_over ts classes) c.in_ok-task.task =
    rw (c.deref.ensures.value, c.in_ok-literals.ensures, c.as_slice-terms.ensures, c.as_slice-list.ensures, c.as_slice.ensures) at c.in_ok-task.ensures in
    let row : IsRowOf (everywhere false care) c.in_ok-none.none = rw (c.as_slice-list.ensures) at c.in_ok-none.ensures in
    let so : c.in_ok-choice.choice.is_enough ≡ true = first_of (search rules, cc) in
    rw (c.in_ok-cubes_of.ensures, c.deref-2.ensures.value, c.deref-3.ensures.value, c.in_ok-literals.ensures, c.as_slice-terms.ensures, c.as_slice.ensures)
    (not_short ts classes c.requires.cases.term_list care (named_are ts classes c.args.cases.now.list c.args.care.now c.requires.cases.whole c.requires.care) tree
    c.in_ok-task.task made c.in_ok-none.none row c.in_ok-choice.choice.cubes.items c.in_ok-choice.ensures.chosen
    (c.in_ok-choice.ensures.enough.0 so))

pub returns-clause-together : goal.returns-clause-together
returns-clause-together c =
    let ts = c.args.cases.now.terms.list in
    let classes = c.args.cases.now.terms.classes in
    let care = configurations_at c.args.cases.now.list c.args.care.now in
    let tree = tree_of c.args.tree.now in
    let made : IsTaskOf ts care tree (literals_over ts classes) c.in_ok-task.task =
    rw (c.deref.ensures.value, c.in_ok-literals.ensures, c.as_slice-terms.ensures, c.as_slice-list.ensures, c.as_slice.ensures) at c.in_ok-task.ensures in
    let row : IsRowOf (everywhere false care) c.in_ok-none.none = rw (c.as_slice-list.ensures) at c.in_ok-none.ensures in
    let so : c.in_ok-choice.choice.is_enough ≡ true = first_of (search rules, cc) in
    rw (c.in_ok-cubes_of.ensures, c.deref-2.ensures.value, c.deref-3.ensures.value, c.in_ok-literals.ensures, c.as_slice-terms.ensures, c.as_slice.ensures)
    (all_together ts classes c.requires.cases.term_list care (named_are ts classes c.args.cases.now.list c.args.care.now c.requires.cases.whole c.requires.care) tree
    c.in_ok-task.task made c.in_ok-none.none row c.in_ok-choice.choice.cubes.items c.in_ok-choice.ensures.chosen
    (c.in_ok-choice.ensures.enough.0 so))

pub returns-then-not-choice-clause-cover : goal.returns-then-not-choice-clause-cover
returns-then-not-choice-clause-cover c =
    let ts = c.args.cases.now.terms.list in
    let classes = c.args.cases.now.terms.classes in
    let care = configurations_at c.args.cases.now.list c.args.care.now in
    let tree = tree_of c.args.tree.now in
    let made : IsTaskOf ts care tree (literals_over ts classes) c.in_ok-task.task =
    rw (c.deref.ensures.value, c.in_ok-literals.ensures, c.as_slice-terms.ensures, c.as_slice-list.ensures, c.as_slice.ensures) at c.in_ok-task.ensures in
    let row : IsRowOf (everywhere false care) c.in_ok-none.none = rw (c.as_slice-list.ensures) at c.in_ok-none.ensures in
    let short : c.in_ok-choice.choice.is_enough ≡ false = first_of (search rules, cc) in
    λ _. (
      cubes_of (literals_over ts classes) c.in_ok-choice.choice.cubes.items,
      the_disjuncts ts classes c.requires.cases.term_list care (named_are ts classes c.args.cases.now.list c.args.care.now c.requires.cases.whole c.requires.care) tree
          c.in_ok-task.task made c.in_ok-none.none row c.in_ok-choice.choice.cubes.items c.in_ok-choice.ensures.chosen,
      falls_short ts classes c.requires.cases.term_list care (named_are ts classes c.args.cases.now.list c.args.care.now c.requires.cases.whole c.requires.care) tree
          c.in_ok-task.task made c.in_ok-none.none row c.in_ok-choice.choice.cubes.items c.in_ok-choice.ensures.chosen
          (λ enough. absurd (let so = c.in_ok-choice.ensures.enough.1 enough in cc)),
    )
