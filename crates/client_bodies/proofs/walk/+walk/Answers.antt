use Rattle.std.proofs.Common.{◌≡◌, ap, arith, drop, length, refl, subst, sym, true, ◌+◌, ◌≤◌, ◌++◌, ◌∙◌}
use Rattle.std.proofs.Math.Seq.{take-length}
use Rattle.client_bodies.proofs.Coded.{coded_behind}
use Rattle.client_bodies.proofs.Left.{block_assigns, block_everything, both_are, grows_then, knows_joined, knows_left, knows_looped, knows_unlooped}
use Rattle.client_bodies.proofs.Left.{own_within, same_among, same_grows, same_left, same_then, scope_kept, joined_grows}
use Rattle.client_bodies.proofs.Passing.{passed_both, passed_on, these_left, these_right}
use Rattle.client_bodies.proofs.Walked.{Passes, Stands, all_dropped, begins, branches, ends_behind, ends_found, goes, passed_holding, passed_leaf}
use Rattle.client_bodies.proofs.Walked.{passes_all, passes_next, passes_none, rest_is, stops, then, walks_after, walks_at, written_assign}
use Rattle.client_bodies.proofs.Walked.{written_declare, written_do, written_if, written_return, written_while}
use Rattle.client_bodies.proofs.Writing.{Writes, holds_blocks, writes_all, writes_next, writes_none}
use Rattle.client_bodies.specs.Walking.{AreWithin, Grows, Passed, Walks, block, faults_inside, faults_of_trees, is_among, is_own, own_of, put_back, with_inside}
use Rattle.client_bodies.specs.declared.blocks.Outside.{Outside}
use Rattle.client_bodies.specs.declared.blocks.Own.{Own}
use Rattle.client_model.specs.Statements.{statement_of}
use Rattle.client_points.specs.Writing.{written_with}
use Rattle.client_model.specs.Statements as trees
use Rattle.client_model.specs.Contexts.{Context, after, after_all, counting, entered, evaluated, looping, situated, situated_in, value_of_test}
use Rattle.client_model.specs.SetNumbers.{AllThese, AreThese}
use Rattle.client_values.specs.Knowing.{Knows}
use Rattle.client_values.specs.ToldFaults.{Finds}
use Rattle.client_values.specs.declared.context.Assigned.{Assigned}
use Rattle.client_values.specs.declared.context.Context.{Context as Known}
use Rattle.set_names.specs.Names.{Names}
use Rattle.std.proofs.lemmas.List.Elements.{filter_agree}
use Rattle.client_model.specs.Codes.{variable_code}
use Rattle.std.specs.Prelude.{IfOk, OnOk, filter, ◌||◌}
use Rattle.std.specs.Prelude.{Err, Ok, Result}
use Rattle.client_bodies.proofs.walk.+walk.Goals as goal

on_ok : {T E : Type 0} {P Q : Type 0} (r : Result T E) → (P → Q) → OnOk r P → OnOk r Q
on_ok (Ok x) f h = f h
on_ok (Err e) f h = tt

pub faults_of_statements-returns-clause-found : goal.faults_of_statements-returns-clause-found
faults_of_statements-returns-clause-found t c d walks =
    let few : length c.args.items.now ≤ c.each.item-index = omega (arith, c.each-test.false) in
    ends_found c.args.setting.now d (block c.args.items.now) c.args.start c.each.context c.each.found
    (subst (λ xs. Stands c.args.setting.now d (block c.args.items.now) c.args.start c.each.context c.each.found (block xs))
    (all_dropped c.args.items.now c.each.item-index few) (c.each.invariant.stands d walks))

pub faults_of_statements-returns-clause-behind : goal.faults_of_statements-returns-clause-behind
faults_of_statements-returns-clause-behind t c d walks =
    let few : length c.args.items.now ≤ c.each.item-index = omega (arith, c.each-test.false) in
    ends_behind c.args.setting.now d (block c.args.items.now) c.args.start c.each.context c.each.found
    (subst (λ xs. Stands c.args.setting.now d (block c.args.items.now) c.args.start c.each.context c.each.found (block xs))
    (all_dropped c.args.items.now c.each.item-index few) (c.each.invariant.stands d walks))

pub faults_of_statements-returns-clause-written : goal.faults_of_statements-returns-clause-written
faults_of_statements-returns-clause-written t c d walks =
    let few : length c.args.items.now ≤ c.each.item-index = omega (arith, c.each-test.false) in
    writes_none c.args.setting.now d (block c.args.items.now) c.args.written.now c.each.context c.each.written
    (subst (λ xs. Writes c.args.setting.now d (block c.args.items.now) c.args.written.now c.each.context c.each.written (block xs))
    (all_dropped c.args.items.now c.each.item-index few) (c.each.invariant.writes d walks))

pub faults_of_statements-returns-clause-passed : goal.faults_of_statements-returns-clause-passed
faults_of_statements-returns-clause-passed t c d walks these =
    let few : length c.args.items.now ≤ c.each.item-index = omega (arith, c.each-test.false) in
    passes_none c.args.setting.now d (block c.args.items.now) c.args.context.now.assigned.names c.each.context
    (subst (λ xs. Passes c.args.setting.now d (block c.args.items.now) c.args.context.now.assigned.names c.each.context (block xs))
    (all_dropped c.args.items.now c.each.item-index few) (c.each.invariant.passes d walks these))

pub faults_of_statements-each-init : goal.faults_of_statements-each-init
faults_of_statements-each-init t c = record {
  stands = λ d walks. begins c.args.setting.now d (block c.args.items.now) c.args.start c.args.context.now walks;
  writes = λ d walks. writes_all c.args.setting.now d (block c.args.items.now) c.args.written.now c.args.context.now walks;
  passes = λ d walks these. passes_all c.args.setting.now d (block c.args.items.now) c.args.context.now walks;
  grows = record { trail = take-length c.args.context.now.assigned.names.trail; statics = refl; variables = omega arith };
}

pub faults_of_statements-each-preserved : goal.faults_of_statements-each-preserved
faults_of_statements-each-preserved t c = record {
  grows = grows_then c.args.context.now.assigned c.each.context.assigned c.faults_inside.new.context.assigned c.each.invariant.grows c.in_ok-found.ensures.grows;
  passes = λ d walks these.
      passes_next c.args.setting.now d (block c.args.items.now) c.args.context.now.assigned.names c.each.context c.faults_inside.new.context
      (statement_of c.item-item.result) (block (drop (c.each.item-index + 1) c.args.items.now)) these
      c.in_ok-found.ensures.passed c.in_ok-found.ensures.behind
      (subst (λ xs. Passes c.args.setting.now d (block c.args.items.now) c.args.context.now.assigned.names c.each.context (block xs))
      (rest_is c.args.items.now c.each.item-index c.item-item.result c.each-test.true c.item-item.is) (c.each.invariant.passes d walks these));
  stands = λ d walks.
      goes c.args.setting.now d (block c.args.items.now) c.args.start c.each.context c.faults_inside.new.context c.each.found c.faults_at-here.result c.in_ok-found.found
      (statement_of c.item-item.result) (block (drop (c.each.item-index + 1) c.args.items.now))
      (λ e w. c.faults_at-here.ensures e w.knows) c.in_ok-found.ensures.found c.in_ok-found.ensures.behind
      (subst (λ xs. Stands c.args.setting.now d (block c.args.items.now) c.args.start c.each.context c.each.found (block xs))
      (rest_is c.args.items.now c.each.item-index c.item-item.result c.each-test.true c.item-item.is) (c.each.invariant.stands d walks));
  writes = λ d walks.
      writes_next c.args.setting.now d (block c.args.items.now) c.args.written.now c.each.context c.faults_inside.new.context c.each.written c.note.new.self c.faults_inside.new.written
      (statement_of c.item-item.result) (block (drop (c.each.item-index + 1) c.args.items.now))
      (λ e w. c.in_ok-note.ensures e w.knows) c.in_ok-found.ensures.written c.in_ok-found.ensures.behind
      (subst (λ xs. Writes c.args.setting.now d (block c.args.items.now) c.args.written.now c.each.context c.each.written (block xs))
      (rest_is c.args.items.now c.each.item-index c.item-item.result c.each-test.true c.item-item.is) (c.each.invariant.writes d walks));
}

pub faults_inside-returns-in_ok-behind_assigned-in-Assign-clause-behind : goal.faults_inside-returns-in_ok-behind_assigned-in-Assign-clause-behind
faults_inside-returns-in_ok-behind_assigned-in-Assign-clause-behind t c d walks =
    let is = written_assign c.args.item.now c.in-Assign.name c.in-Assign.value c.in-Assign.is in
    walks_after c.args.setting.now d (statement_of c.args.item.now) (trees.Assign c.in-Assign.name c.in-Assign.value) c.args.context.now
    c.behind_assigned.new.context walks is (c.in_ok-behind_assigned-in-Assign.ensures.behind d walks)

pub faults_inside-returns-in_ok-behind_assigned-in-Assign-clause-passed : goal.faults_inside-returns-in_ok-behind_assigned-in-Assign-clause-passed
faults_inside-returns-in_ok-behind_assigned-in-Assign-clause-passed t c d walks these inner =
    let is = written_assign c.args.item.now c.in-Assign.name c.in-Assign.value c.in-Assign.is in
    passed_leaf c.args.setting.now d (statement_of c.args.item.now) (trees.Assign c.in-Assign.name c.in-Assign.value) c.args.context.now
    c.behind_assigned.new.context is refl refl walks these c.in_ok-behind_assigned-in-Assign.ensures.notes

pub faults_inside-returns-in_ok-behind_assigned-in-Assign-clause-grows : goal.faults_inside-returns-in_ok-behind_assigned-in-Assign-clause-grows
faults_inside-returns-in_ok-behind_assigned-in-Assign-clause-grows t c = c.in_ok-behind_assigned-in-Assign.ensures.notes.grows

pub faults_inside-returns-in_ok-behind_done-in-Do-clause-behind : goal.faults_inside-returns-in_ok-behind_done-in-Do-clause-behind
faults_inside-returns-in_ok-behind_done-in-Do-clause-behind t c d walks =
    let is = written_do c.args.item.now c.in-Do.value c.in-Do.is in
    walks_after c.args.setting.now d (statement_of c.args.item.now) (trees.Do c.in-Do.value) c.args.context.now c.behind_done.new.context walks is
    (c.in_ok-behind_done-in-Do.ensures.behind d walks.knows)

pub faults_inside-returns-in_ok-behind_done-in-Do-clause-passed : goal.faults_inside-returns-in_ok-behind_done-in-Do-clause-passed
faults_inside-returns-in_ok-behind_done-in-Do-clause-passed t c d walks these inner =
    let is = written_do c.args.item.now c.in-Do.value c.in-Do.is in
    passed_leaf c.args.setting.now d (statement_of c.args.item.now) (trees.Do c.in-Do.value) c.args.context.now c.behind_done.new.context is refl refl
    walks these c.in_ok-behind_done-in-Do.ensures.notes

pub faults_inside-returns-in_ok-behind_done-in-Do-clause-grows : goal.faults_inside-returns-in_ok-behind_done-in-Do-clause-grows
faults_inside-returns-in_ok-behind_done-in-Do-clause-grows t c = c.in_ok-behind_done-in-Do.ensures.notes.grows

pub faults_inside-returns-in_ok-behind_declaration-in-Declare-clause-behind : goal.faults_inside-returns-in_ok-behind_declaration-in-Declare-clause-behind
faults_inside-returns-in_ok-behind_declaration-in-Declare-clause-behind t c d walks =
    let is = written_declare c.args.item.now c.in-Declare.field-0 c.in-Declare.sort c.in-Declare.name c.in-Declare.value c.in-Declare.is in
    walks_after c.args.setting.now d (statement_of c.args.item.now)
    (trees.Declare c.in-Declare.field-0 c.in-Declare.sort c.in-Declare.name c.in-Declare.value) c.args.context.now c.behind_declaration.new.context walks is
    (c.in_ok-behind_declaration-in-Declare.ensures.behind d c.in-Declare.field-0 walks.knows)

pub faults_inside-returns-in_ok-behind_declaration-in-Declare-clause-passed : goal.faults_inside-returns-in_ok-behind_declaration-in-Declare-clause-passed
faults_inside-returns-in_ok-behind_declaration-in-Declare-clause-passed t c d walks these inner =
    let is = written_declare c.args.item.now c.in-Declare.field-0 c.in-Declare.sort c.in-Declare.name c.in-Declare.value c.in-Declare.is in
    passed_leaf c.args.setting.now d (statement_of c.args.item.now)
    (trees.Declare c.in-Declare.field-0 c.in-Declare.sort c.in-Declare.name c.in-Declare.value) c.args.context.now c.behind_declaration.new.context is refl refl walks these
    c.in_ok-behind_declaration-in-Declare.ensures.notes

pub faults_inside-returns-in_ok-behind_declaration-in-Declare-clause-grows : goal.faults_inside-returns-in_ok-behind_declaration-in-Declare-clause-grows
faults_inside-returns-in_ok-behind_declaration-in-Declare-clause-grows t c = c.in_ok-behind_declaration-in-Declare.ensures.notes.grows

pub faults_inside-returns-in_ok-behind_stopped-in-Break-clause-behind : goal.faults_inside-returns-in_ok-behind_stopped-in-Break-clause-behind
faults_inside-returns-in_ok-behind_stopped-in-Break-clause-behind t c d walks =
    let is = stops c.args.item.now c.in-Break.is in
    walks_after c.args.setting.now d (statement_of c.args.item.now) is.0 c.args.context.now c.behind_stopped.new.context walks is.1.0
    (subst (λ e. Knows e c.behind_stopped.new.context) (sym (is.1.1 c.args.setting.now d)) (c.in_ok-behind_stopped-in-Break.ensures.behind d walks.knows))

pub faults_inside-returns-in_ok-behind_stopped-in-Break-clause-passed : goal.faults_inside-returns-in_ok-behind_stopped-in-Break-clause-passed
faults_inside-returns-in_ok-behind_stopped-in-Break-clause-passed t c d walks these inner =
    let is = stops c.args.item.now c.in-Break.is in
    passed_leaf c.args.setting.now d (statement_of c.args.item.now) is.0 c.args.context.now c.behind_stopped.new.context is.1.0
    (is.1.3 c.args.setting.now d) (is.1.2 c.args.setting.now d) walks these c.in_ok-behind_stopped-in-Break.ensures.notes

pub faults_inside-returns-in_ok-behind_stopped-in-Break-clause-grows : goal.faults_inside-returns-in_ok-behind_stopped-in-Break-clause-grows
faults_inside-returns-in_ok-behind_stopped-in-Break-clause-grows t c = c.in_ok-behind_stopped-in-Break.ensures.notes.grows

pub faults_inside-returns-in_ok-behind_returned-in-Return-clause-behind : goal.faults_inside-returns-in_ok-behind_returned-in-Return-clause-behind
faults_inside-returns-in_ok-behind_returned-in-Return-clause-behind t c d walks =
    let is = written_return c.args.item.now c.in-Return.field-0 c.in-Return.is in
    walks_after c.args.setting.now d (statement_of c.args.item.now) (trees.Return c.in-Return.field-0) c.args.context.now c.behind_returned.new.context walks is
    (c.in_ok-behind_returned-in-Return.ensures.behind d walks.knows)

pub faults_inside-returns-in_ok-behind_returned-in-Return-clause-passed : goal.faults_inside-returns-in_ok-behind_returned-in-Return-clause-passed
faults_inside-returns-in_ok-behind_returned-in-Return-clause-passed t c d walks these inner =
    let is = written_return c.args.item.now c.in-Return.field-0 c.in-Return.is in
    subst (λ x. Passed (with_inside c.args.setting.now d x) c.args.context.now.assigned.names c.behind_returned.new.context.assigned.names) (sym is)
    (c.in_ok-behind_returned-in-Return.ensures.passed c.args.setting.now d c.in-Return.field-0 walks.knows these)

pub faults_inside-returns-in-While-clause-found : goal.faults_inside-returns-in-While-clause-found
faults_inside-returns-in-While-clause-found t c =
    let is : statement_of c.args.item.now ≡ trees.While c.in-While.field-0 c.in-While.test (block c.as_slice-in-While.result.now) =
    written_while c.args.item.now c.in-While.field-0 c.in-While.test c.in-While.inner c.as_slice-in-While.result.now c.in-While.is c.as_slice-in-While.ensures in
    subst (λ x. IfOk c.faults_of_while.result
    (λ f. (e : Context) → Walks c.args.setting.now e c.args.context.now → Finds c.args.found f (faults_inside c.args.setting.now e x))) (sym is)
    c.faults_of_while.ensures.found

pub faults_inside-returns-in-While-clause-behind : goal.faults_inside-returns-in-While-clause-behind
faults_inside-returns-in-While-clause-behind t c =
    let is : statement_of c.args.item.now ≡ trees.While c.in-While.field-0 c.in-While.test (block c.as_slice-in-While.result.now) =
    written_while c.args.item.now c.in-While.field-0 c.in-While.test c.in-While.inner c.as_slice-in-While.result.now c.in-While.is c.as_slice-in-While.ensures in
    subst (λ x. OnOk c.faults_of_while.result
    ((e : Context) → Walks c.args.setting.now e c.args.context.now → Walks c.args.setting.now (after c.args.setting.now e x) c.faults_of_while.new.context)) (sym is)
    c.faults_of_while.ensures.behind

pub faults_inside-returns-in-While-clause-written : goal.faults_inside-returns-in-While-clause-written
faults_inside-returns-in-While-clause-written t c =
    let is : statement_of c.args.item.now ≡ trees.While c.in-While.field-0 c.in-While.test (block c.as_slice-in-While.result.now) =
    written_while c.args.item.now c.in-While.field-0 c.in-While.test c.in-While.inner c.as_slice-in-While.result.now c.in-While.is c.as_slice-in-While.ensures in
    subst (λ x. OnOk c.faults_of_while.result ((e : Context) → Walks c.args.setting.now e c.args.context.now
    → c.faults_of_while.new.written ≡ written_with (situated_in c.args.setting.now e x) c.args.written.now)) (sym is)
    c.faults_of_while.ensures.written

pub faults_inside-returns-in-While-clause-passed : goal.faults_inside-returns-in-While-clause-passed
faults_inside-returns-in-While-clause-passed t c =
    let is : statement_of c.args.item.now ≡ trees.While c.in-While.field-0 c.in-While.test (block c.as_slice-in-While.result.now) =
    written_while c.args.item.now c.in-While.field-0 c.in-While.test c.in-While.inner c.as_slice-in-While.result.now c.in-While.is c.as_slice-in-While.ensures in
    subst (λ x. OnOk c.faults_of_while.result ((e : Context) → Walks c.args.setting.now e c.args.context.now → AreThese e.assigned
    → AllThese (situated_in c.args.setting.now e x) → Passed (with_inside c.args.setting.now e x) c.args.context.now.assigned.names
    c.faults_of_while.new.context.assigned.names)) (sym is)
    (on_ok c.faults_of_while.result (λ passed e. passed e c.in-While.field-0) c.faults_of_while.ensures.passed)

pub faults_inside-returns-in-While-clause-grows : goal.faults_inside-returns-in-While-clause-grows
faults_inside-returns-in-While-clause-grows t c =
    on_ok c.faults_of_while.result (λ same. same_grows c.args.context.now.assigned c.faults_of_while.new.context.assigned same) c.faults_of_while.ensures.same

pub faults_of_block-returns-clause-found : goal.faults_of_block-returns-clause-found
faults_of_block-returns-clause-found t c d walks = c.in_ok-found.ensures.found (entered d)
    (walks_at c.args.setting.now d (entered d) c.args.context.now c.enter.new.context walks (c.enter.ensures.behind d walks.knows) refl refl refl)

pub faults_of_block-returns-clause-written : goal.faults_of_block-returns-clause-written
faults_of_block-returns-clause-written t c d walks = c.in_ok-found.ensures.written (entered d)
    (walks_at c.args.setting.now d (entered d) c.args.context.now c.enter.new.context walks (c.enter.ensures.behind d walks.knows) refl refl refl)

pub faults_of_block-returns-clause-behind : goal.faults_of_block-returns-clause-behind
faults_of_block-returns-clause-behind t c d walks =
    let s = c.args.setting.now in
    let inside = c.faults_of_statements.new.context in
    record {
      knows =
          knows_left d (after_all s (entered d) (block c.args.items.now)) c.args.context.now inside c.leave.new.context
          walks.knows (c.in_ok-found.ensures.behind (entered d)
          (walks_at c.args.setting.now d (entered d) c.args.context.now c.enter.new.context walks (c.enter.ensures.behind d walks.knows) refl refl
          refl)).knows (scope_kept s (entered d) (block c.args.items.now))
          (subst (λ a. Grows a inside.assigned) c.enter.ensures.assigned c.in_ok-found.ensures.grows)
          (c.in_ok-own.ensures.context ∙ ap (λ (o : Outside). put_back o inside) c.outside_of-outside.ensures);
      coded = coded_behind s d (block c.args.items.now) walks.coded;
    }

pub faults_of_block-returns-clause-same : goal.faults_of_block-returns-clause-same
faults_of_block-returns-clause-same t c =
    let inside = c.faults_of_statements.new.context in
    same_left c.args.context.now inside c.leave.new.context
    (subst (λ a. Grows a inside.assigned) c.enter.ensures.assigned c.in_ok-found.ensures.grows)
    (c.in_ok-own.ensures.context ∙ ap (λ (o : Outside). put_back o inside) c.outside_of-outside.ensures)

pub faults_of_block-returns-clause-own : goal.faults_of_block-returns-clause-own
faults_of_block-returns-clause-own t c d walks code =
    let s = c.args.setting.now in
    let inside = c.faults_of_statements.new.context in
    block_assigns (after_all s (entered d) (block c.args.items.now)) c.args.context.now.assigned inside c.in_ok-own.own (block c.args.items.now)
    c.all_go_on-goes_on.result
    (c.in_ok-found.ensures.behind (entered d)
    (walks_at c.args.setting.now d (entered d) c.args.context.now c.enter.new.context walks (c.enter.ensures.behind d walks.knows) refl refl refl)).knows
    (subst (λ a. Grows a inside.assigned) c.enter.ensures.assigned c.in_ok-found.ensures.grows) c.all_go_on-goes_on.ensures
    (c.in_ok-own.ensures.own ∙ ap (λ (o : Outside). own_of o inside c.all_go_on-goes_on.result) c.outside_of-outside.ensures) code

pub faults_of_block-returns-clause-everything : goal.faults_of_block-returns-clause-everything
faults_of_block-returns-clause-everything t c d walks =
    let s = c.args.setting.now in
    let inside = c.faults_of_statements.new.context in
    block_everything (after_all s (entered d) (block c.args.items.now)) inside c.in_ok-own.own (block c.args.items.now)
    c.all_go_on-goes_on.result
    (c.in_ok-found.ensures.behind (entered d)
    (walks_at c.args.setting.now d (entered d) c.args.context.now c.enter.new.context walks (c.enter.ensures.behind d walks.knows) refl refl refl)).knows c.all_go_on-goes_on.ensures
    (ap (λ (o : Own). o.everything) c.in_ok-own.ensures.own)

pub faults_of_block-returns-clause-within : goal.faults_of_block-returns-clause-within
faults_of_block-returns-clause-within t c =
    own_within c.args.context.now.assigned c.faults_of_statements.new.context c.leave.new.context c.in_ok-own.own c.outside_of-outside.result
    c.in_ok-own.ensures.within (ap (λ (o : Own). o.numbers) c.in_ok-own.ensures.own) c.in_ok-own.ensures.context

pub faults_of_block-returns-clause-both : goal.faults_of_block-returns-clause-both
faults_of_block-returns-clause-both t c =
    let inside = c.faults_of_statements.new.context in
    both_are c.args.context.now.assigned inside.assigned c.in_ok-own.own c.all_go_on-goes_on.result c.args.others.now c.in_ok-both.both
    (subst (λ a. Grows a inside.assigned) c.enter.ensures.assigned c.in_ok-found.ensures.grows)
    (c.in_ok-own.ensures.own ∙ ap (λ (o : Outside). own_of o inside c.all_go_on-goes_on.result) c.outside_of-outside.ensures)
    c.in_ok-both.ensures

pub faults_of_block-returns-clause-passed : goal.faults_of_block-returns-clause-passed
faults_of_block-returns-clause-passed t c d walks these =
    let s = c.args.setting.now in
    let inside = c.faults_of_statements.new.context in
    let put = c.in_ok-own.ensures.context in
    passed_on (situated s (entered d) (block c.args.items.now)) c.args.context.now.assigned.names inside.assigned.names c.leave.new.context.assigned.names
    (subst (λ (a : Assigned). Passed (situated s (entered d) (block c.args.items.now)) a.names inside.assigned.names) c.enter.ensures.assigned
    (c.in_ok-found.ensures.passed (entered d)
    (walks_at c.args.setting.now d (entered d) c.args.context.now c.enter.new.context walks (c.enter.ensures.behind d walks.knows) refl refl refl) these))
    (ap (λ (k : Known). k.assigned.names.before) put) (ap (λ (k : Known). k.assigned.names.left) put)

pub faults_of_while-returns-clause-found : goal.faults_of_while-returns-clause-found
faults_of_while-returns-clause-found t c d walks =
    let v = value_of_test c.args.test.now in
    let e = evaluated v d in
    let stands = c.in_ok-evaluate.ensures.behind d walks.knows v (sym c.call_count_of_test.ensures) in
    let loops = walks_at c.args.setting.now d (record e { looped = true }) c.args.context.now (record c.evaluate.new.context { looped = true }) walks
    (knows_looped e c.evaluate.new.context stands) refl refl refl in
    c.in_ok-inner.ensures.found (record e { looped = true }) loops

pub faults_of_while-returns-clause-written : goal.faults_of_while-returns-clause-written
faults_of_while-returns-clause-written t c d walks =
    let v = value_of_test c.args.test.now in
    let e = evaluated v d in
    let stands = c.in_ok-evaluate.ensures.behind d walks.knows v (sym c.call_count_of_test.ensures) in
    let loops = walks_at c.args.setting.now d (record e { looped = true }) c.args.context.now (record c.evaluate.new.context { looped = true }) walks
    (knows_looped e c.evaluate.new.context stands) refl refl refl in
    c.in_ok-inner.ensures.written (record e { looped = true }) loops

pub faults_of_while-returns-clause-behind : goal.faults_of_while-returns-clause-behind
faults_of_while-returns-clause-behind t c d walks =
    let v = value_of_test c.args.test.now in
    let e = evaluated v d in
    let stands = c.in_ok-evaluate.ensures.behind d walks.knows v (sym c.call_count_of_test.ensures) in
    let loops = walks_at c.args.setting.now d (record e { looped = true }) c.args.context.now (record c.evaluate.new.context { looped = true }) walks
    (knows_looped e c.evaluate.new.context stands) refl refl refl in
    let inner = c.in_ok-inner.ensures.behind (record e { looped = true }) loops in
    record {
      knows =
          knows_unlooped e (after_all c.args.setting.now (looping e) (block c.args.items.now)) c.evaluate.new.context c.faults_of_block.new.context stands inner.knows;
      coded = record { scope = inner.coded.scope; statics = inner.coded.statics };
    }

pub faults_of_while-returns-clause-same : goal.faults_of_while-returns-clause-same
faults_of_while-returns-clause-same t c =
    same_then c.args.context.now.assigned c.evaluate.new.context.assigned c.faults_of_block.new.context.assigned c.in_ok-evaluate.ensures.same c.in_ok-inner.ensures.same

pub faults_of_while-returns-clause-passed : goal.faults_of_while-returns-clause-passed
faults_of_while-returns-clause-passed t c d place walks these all =
    let v = value_of_test c.args.test.now in
    let e = evaluated v d in
    let stands = c.in_ok-evaluate.ensures.behind d walks.knows v (sym c.call_count_of_test.ensures) in
    let loops = walks_at c.args.setting.now d (record e { looped = true }) c.args.context.now (record c.evaluate.new.context { looped = true }) walks
    (knows_looped e c.evaluate.new.context stands) refl refl refl in
    passed_holding c.args.setting.now d (trees.While place c.args.test.now (block c.args.items.now)) (trees.While place c.args.test.now (block c.args.items.now))
    c.args.context.now c.evaluate.new.context c.faults_of_block.new.context c.faults_of_block.new.context.assigned.names
    (situated c.args.setting.now (looping e) (block c.args.items.now)) refl refl refl walks these c.in_ok-evaluate.ensures.notes
    (c.in_ok-inner.ensures.passed (record e { looped = true }) loops all) refl refl

pub faults_inside-returns-in_ok-join-in-If-clause-found : goal.faults_inside-returns-in_ok-join-in-If-clause-found
faults_inside-returns-in_ok-join-in-If-clause-found t c d walks =
    let s = c.args.setting.now in
    let v = value_of_test c.in-If.test in
    let e = evaluated v d in
    let xs = block c.as_slice.result.now in
    let ys = block c.as_slice-in-If.result.now in
    let one = after_all s (entered e) xs in
    let other = after_all s (entered (counting e one)) ys in
    let stands = c.in_ok-evaluate-in-If.ensures.behind d walks.knows v (sym c.call_count_of_test.ensures) in
    let first = walks_at s d e c.args.context.now c.evaluate.new.context walks stands refl refl refl in
    let second = c.in_ok-one-in-If.ensures.behind e first in
    let is = written_if c.args.item.now c.in-If.field-0 c.in-If.test c.in-If.first c.in-If.second c.as_slice.result.now c.as_slice-in-If.result.now c.in-If.field-4
    c.in-If.is c.as_slice.ensures c.as_slice-in-If.ensures in
    subst (Finds c.args.found c.in_ok-other-in-If.other.found)
    (sym (branches s d c.args.item.now c.in-If.field-0 c.in-If.test c.in-If.first c.in-If.second c.as_slice.result.now c.as_slice-in-If.result.now c.in-If.field-4
    c.in-If.is c.as_slice.ensures c.as_slice-in-If.ensures))
    (then c.args.found c.in_ok-one-in-If.one.found c.in_ok-other-in-If.other.found (faults_of_trees s (entered e) xs) (faults_of_trees s (entered (counting e one)) ys)
    (c.in_ok-one-in-If.ensures.found e first)
    (c.in_ok-other-in-If.ensures.found (counting e one) second))

pub faults_inside-returns-in_ok-join-in-If-clause-written : goal.faults_inside-returns-in_ok-join-in-If-clause-written
faults_inside-returns-in_ok-join-in-If-clause-written t c d walks =
    let s = c.args.setting.now in
    let v = value_of_test c.in-If.test in
    let e = evaluated v d in
    let xs = block c.as_slice.result.now in
    let ys = block c.as_slice-in-If.result.now in
    let one = after_all s (entered e) xs in
    let other = after_all s (entered (counting e one)) ys in
    let stands = c.in_ok-evaluate-in-If.ensures.behind d walks.knows v (sym c.call_count_of_test.ensures) in
    let first = walks_at s d e c.args.context.now c.evaluate.new.context walks stands refl refl refl in
    let second = c.in_ok-one-in-If.ensures.behind e first in
    let is = written_if c.args.item.now c.in-If.field-0 c.in-If.test c.in-If.first c.in-If.second c.as_slice.result.now c.as_slice-in-If.result.now c.in-If.field-4
    c.in-If.is c.as_slice.ensures c.as_slice-in-If.ensures in
    holds_blocks s d (statement_of c.args.item.now) (entered e) (entered (counting e one)) xs ys c.args.written.now c.faults_of_block.new.written c.faults_of_block-in-If.new.written
    (ap (situated_in s d) is)
    (c.in_ok-one-in-If.ensures.written e first)
    (c.in_ok-other-in-If.ensures.written (counting e one) second)

pub faults_inside-returns-in_ok-join-in-If-clause-behind : goal.faults_inside-returns-in_ok-join-in-If-clause-behind
faults_inside-returns-in_ok-join-in-If-clause-behind t c d walks =
    let s = c.args.setting.now in
    let v = value_of_test c.in-If.test in
    let e = evaluated v d in
    let xs = block c.as_slice.result.now in
    let ys = block c.as_slice-in-If.result.now in
    let one = after_all s (entered e) xs in
    let other = after_all s (entered (counting e one)) ys in
    let stands = c.in_ok-evaluate-in-If.ensures.behind d walks.knows v (sym c.call_count_of_test.ensures) in
    let first = walks_at s d e c.args.context.now c.evaluate.new.context walks stands refl refl refl in
    let second = c.in_ok-one-in-If.ensures.behind e first in
    let is = written_if c.args.item.now c.in-If.field-0 c.in-If.test c.in-If.first c.in-If.second c.as_slice.result.now c.as_slice-in-If.result.now c.in-If.field-4
    c.in-If.is c.as_slice.ensures c.as_slice-in-If.ensures in
    let start = c.evaluate.new.context.assigned in
    let middle = c.faults_of_block.new.context.assigned in
    let mid = c.faults_of_block-in-If.new.context in
    let here = c.in_ok-one-in-If.one in
    let there = c.in_ok-other-in-If.other in
    let same_two = c.in_ok-other-in-If.ensures.same in
    let same_both = same_then start middle mid.assigned c.in_ok-one-in-If.ensures.same same_two in
    let within : AreWithin mid.assigned.names.variables here.own.numbers = λ k inside. omega (arith, c.in_ok-one-in-If.ensures.within k inside, same_two.variables) in
    let made : there.both ≡ filter (λ k. is_among mid.assigned (variable_code k) || is_own there.own (variable_code k)) here.own.numbers =
    c.in_ok-other-in-If.ensures.both
    ∙ filter_agree (λ k. is_among middle (variable_code k) || is_own there.own (variable_code k)) (λ k. is_among mid.assigned (variable_code k) || is_own there.own (variable_code k))
    (λ k. ap (λ b. b || is_own there.own (variable_code k)) (sym (same_among middle mid.assigned same_two (variable_code k)))) _
    ∙ ap (filter (λ k. is_among mid.assigned (variable_code k) || is_own there.own (variable_code k))) c.as_slice-in-If-2.ensures in
    walks_after s d (statement_of c.args.item.now) (trees.If c.in-If.field-0 c.in-If.test xs ys c.in-If.field-4) c.args.context.now c.join.new.context walks is
    (knows_joined e one other xs ys mid.assigned mid c.join.new.context here.own there.own here.goes_on there.goes_on
    (c.in_ok-other-in-If.ensures.behind (counting e one) second).knows c.in_ok-one-in-If.ensures.goes_on c.in_ok-other-in-If.ensures.goes_on
    (λ n. c.in_ok-one-in-If.ensures.own e first n ∙ ap (λ b. b || is_own here.own n) (sym (same_among start mid.assigned same_both n)))
    (λ n. c.in_ok-other-in-If.ensures.own (counting e one) second n ∙ ap (λ b. b || is_own there.own n) (sym (same_among middle mid.assigned same_two n)))
    (c.in_ok-join-in-If.ensures.assigned within c.in_ok-other-in-If.ensures.within made)
    (c.in_ok-one-in-If.ensures.everything e first) (c.in_ok-other-in-If.ensures.everything (counting e one) second)
    c.in_ok-join-in-If.ensures.everything c.in_ok-join-in-If.ensures.names c.in_ok-join-in-If.ensures.context)

pub faults_inside-returns-in_ok-join-in-If-clause-passed : goal.faults_inside-returns-in_ok-join-in-If-clause-passed
faults_inside-returns-in_ok-join-in-If-clause-passed t c d walks these inner =
    let s = c.args.setting.now in
    let v = value_of_test c.in-If.test in
    let e = evaluated v d in
    let xs = block c.as_slice.result.now in
    let ys = block c.as_slice-in-If.result.now in
    let one = after_all s (entered e) xs in
    let other = after_all s (entered (counting e one)) ys in
    let stands = c.in_ok-evaluate-in-If.ensures.behind d walks.knows v (sym c.call_count_of_test.ensures) in
    let first = walks_at s d e c.args.context.now c.evaluate.new.context walks stands refl refl refl in
    let second = c.in_ok-one-in-If.ensures.behind e first in
    let is = written_if c.args.item.now c.in-If.field-0 c.in-If.test c.in-If.first c.in-If.second c.as_slice.result.now c.as_slice-in-If.result.now c.in-If.field-4
    c.in-If.is c.as_slice.ensures c.as_slice-in-If.ensures in
    let mid = c.faults_of_block-in-If.new.context in
    let all : AllThese (situated s (entered e) xs ++ situated s (entered (counting e one)) ys) = subst (λ x. AllThese (situated_in s d x)) is inner in
    let joined = c.in_ok-join-in-If.ensures.names in
    passed_holding s d (statement_of c.args.item.now) (trees.If c.in-If.field-0 c.in-If.test xs ys c.in-If.field-4)
    c.args.context.now c.evaluate.new.context mid c.join.new.context.assigned.names
    (situated s (entered e) xs ++ situated s (entered (counting e one)) ys) is refl refl walks these c.in_ok-evaluate-in-If.ensures.notes
    (passed_both (situated s (entered e) xs) (situated s (entered (counting e one)) ys) c.evaluate.new.context.assigned.names
    c.faults_of_block.new.context.assigned.names mid.assigned.names
    (c.in_ok-one-in-If.ensures.passed e first (these_left (situated s (entered e) xs) (situated s (entered (counting e one)) ys) all))
    (c.in_ok-other-in-If.ensures.passed (counting e one) second (these_right (situated s (entered e) xs) (situated s (entered (counting e one)) ys) all)))
    (ap (λ (m : Names). m.before) joined) (ap (λ (m : Names). m.left) joined)

pub faults_inside-returns-in_ok-join-in-If-clause-grows : goal.faults_inside-returns-in_ok-join-in-If-clause-grows
faults_inside-returns-in_ok-join-in-If-clause-grows t c =
    let mid = c.faults_of_block-in-If.new.context.assigned in
    let names = c.in_ok-join-in-If.ensures.names in
    let same = same_then c.args.context.now.assigned c.evaluate.new.context.assigned mid c.in_ok-evaluate-in-If.ensures.same
    (same_then c.evaluate.new.context.assigned c.faults_of_block.new.context.assigned mid c.in_ok-one-in-If.ensures.same c.in_ok-other-in-If.ensures.same) in
    grows_then c.args.context.now.assigned mid c.join.new.context.assigned (same_grows c.args.context.now.assigned mid same)
    (joined_grows mid c.join.new.context.assigned c.in_ok-join-in-If.ensures.grows names)
