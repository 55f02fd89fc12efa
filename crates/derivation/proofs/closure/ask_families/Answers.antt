use Rattle.std.proofs.Common.{◌<◌, ◌≤◌, arith, length}
use Rattle.derivation.proofs.Ending.{families_asked, family_counted, family_next}
use Rattle.derivation.proofs.Entries.{all_asked_fit}
use Rattle.derivation.proofs.Replying.{stands}
use Rattle.derivation.proofs.closure.ask_families.Goals as goal

pub ask_on-requires-clause-fit : goal.ask_on-requires-clause-fit
ask_on-requires-clause-fit c = all_asked_fit c.args.spec.now c.is_kept.ensures.checked _ c.each.found.families.items c.each.invariant.so_far.asked

pub each-preserved : goal.each-preserved
each-preserved c =
    let form = c.args.spec.now in
    let known = c.each.found.families.items in
    let new = c.ask_on.new.found in
    let number = c.each.number in
    let within : number < length known = omega (arith, c.each-test.true, c.len.ensures, c.each.found.families.ok) in
    let f = stands known number within in
    record {
      so_far = family_counted form known number f.0 f.1 new.families.items new.clauses.items new.updates.items c.in-Ok.ensures.longer
          (c.in-Ok.ensures.asked _ f.0 c.each.invariant.so_far f.1 (family_next form known number f.0 f.1));
      few = c.in-Ok.ensures.few;
    }

pub returns-in-Err : goal.returns-in-Err
returns-in-Err c =
    let known = c.each.found.families.items in
    let number = c.each.number in
    let within : number < length known = omega (arith, c.each-test.true, c.len.ensures, c.each.found.families.ok) in
    let f = stands known number within in
    c.in-Err.ensures.asked _ f.0 c.each.invariant.so_far f.1 (family_next c.args.spec.now known number f.0 f.1)

pub returns : goal.returns
returns c =
    let known = c.each.found.families.items in
    let most : length known ≤ c.each.number = omega (arith, c.each-test.false, c.len.ensures, c.each.found.families.ok) in
    families_asked c.args.spec.now c.each.number known c.each.found.clauses.items c.each.found.updates.items most c.each.invariant.so_far
