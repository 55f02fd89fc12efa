-- What the plain tree of each kind of statement is.
use Rattle.std.proofs.Common.{◌≡◌, Bool, List, Option, map, ap, sym, ◌∙◌}
use Rattle.client_model.specs.Statements.{Statement, Statements, Declare, Assign, Do, If, While, Break, Continue, Return, rooted, statement_of, statements}
use Rattle.client_model.specs.declared.tree.Return.{Return as Returned}
use Rattle.client_model.specs.declared.tree.Rhs.{Rhs}
use Rattle.client_model.specs.declared.tree.Stmt.{Stmt}
use Rattle.client_model.specs.declared.tree.Stmt.TheFolds.{fold-roll-Stmt}
use Rattle.client_model.specs.declared.tree.Stmt.TheOpen as layer
use Rattle.client_model.specs.declared.tree.Stmt.TheVariants as stmt
use Rattle.client_model.specs.declared.tree.Test.{Test}
use Rattle.easl_model.specs.declared.place.Place.{Place}
use Rattle.easl_model.specs.declared.tree.Sort.{Sort}
use Rattle.easl_model.specs.declared.tree.Word.{Word}

abbrev pub plain : List Stmt → Statements
plain xs = statements (map statement_of xs)

pub plain_declare : (at : Place) (s : Sort) (n : Word) (v : Option Rhs) → statement_of (stmt.Declare at s n v) ≡ Declare at s n v
plain_declare at s n v = ap statement_of (sym (stmt.rolls-Declare at s n v)) ∙ fold-roll-Stmt Statement rooted (layer.Declare at s n v)

pub plain_assign : (n : Word) (v : Rhs) → statement_of (stmt.Assign n v) ≡ Assign n v
plain_assign n v = ap statement_of (sym (stmt.rolls-Assign n v)) ∙ fold-roll-Stmt Statement rooted (layer.Assign n v)

pub plain_do : (v : Rhs) → statement_of (stmt.Do v) ≡ Do v
plain_do v = ap statement_of (sym (stmt.rolls-Do v)) ∙ fold-roll-Stmt Statement rooted (layer.Do v)

pub plain_if : (at : Place) (t : Test) (xs ys : List Stmt) (written : Bool) → statement_of (stmt.If at t xs ys written) ≡ If at t (plain xs) (plain ys) written
plain_if at t xs ys written = ap statement_of (sym (stmt.rolls-If at t xs ys written)) ∙ fold-roll-Stmt Statement rooted (layer.If at t xs ys written)

pub plain_while : (at : Place) (t : Test) (xs : List Stmt) → statement_of (stmt.While at t xs) ≡ While at t (plain xs)
plain_while at t xs = ap statement_of (sym (stmt.rolls-While at t xs)) ∙ fold-roll-Stmt Statement rooted (layer.While at t xs)

pub plain_break : (at : Place) → statement_of (stmt.Break at) ≡ Break at
plain_break at = ap statement_of (sym (stmt.rolls-Break at)) ∙ fold-roll-Stmt Statement rooted (layer.Break at)

pub plain_continue : (at : Place) → statement_of (stmt.Continue at) ≡ Continue at
plain_continue at = ap statement_of (sym (stmt.rolls-Continue at)) ∙ fold-roll-Stmt Statement rooted (layer.Continue at)

pub plain_return : (r : Returned) → statement_of (stmt.Return r) ≡ Return r
plain_return r = ap statement_of (sym (stmt.rolls-Return r)) ∙ fold-roll-Stmt Statement rooted (layer.Return r)
