use Rattle.std.proofs.Common.{drop}
use Rattle.client_bodies.proofs.Walked.{Passes, Stands}
use Rattle.client_bodies.proofs.Writing.{Writes}
use Rattle.client_bodies.specs.Walking.{Grows, Walks, block}
use Rattle.client_model.specs.Contexts.{Context, situated}
use Rattle.client_model.specs.SetNumbers.{AllThese}
use Rattle.client_bodies.proofs.walk.+walk.Given as goal

abbrev pub invariant-faults_of_statements-each : goal.invariant-faults_of_statements-each
invariant-faults_of_statements-each l = record {
  stands : (c : Context) → Walks l.setting c l.fn.context → Stands l.setting c (block l.items) l.fn.start l.context l.found (block (drop l.item-index l.items));
  writes : (c : Context) → Walks l.setting c l.fn.context → Writes l.setting c (block l.items) l.fn.written l.context l.written (block (drop l.item-index l.items));
  passes : (c : Context) → Walks l.setting c l.fn.context → AllThese (situated l.setting c (block l.items))
      → Passes l.setting c (block l.items) l.fn.context.assigned.names l.context (block (drop l.item-index l.items));
  grows : Grows l.fn.context.assigned l.context.assigned;
}
