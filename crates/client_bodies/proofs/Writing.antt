-- What is written on a walk over statements.
use Rattle.std.proofs.Common.{◌≡◌, ◌∷◌, ◌++◌, [], ap, refl, sym, ◌∙◌}
use Rattle.client_points.proofs.Adding.{both_written, nothing_written}
use Rattle.client_points.specs.Writing.{at, written_with}
use Rattle.client_points.specs.declared.written.Written.{Written}
use Rattle.client_model.specs.Statements.{Statement, Statements, none, ◌▸◌}
use Rattle.client_model.specs.Contexts.{Context, after, situated, situated_in}
use Rattle.client_model.specs.Settings.{Setting}
use Rattle.client_bodies.specs.Walking.{Walks}
use Rattle.client_values.specs.declared.context.Context.{Context as Known}

-- of these statements, which began in the first context, these are not written yet
pub record Writes (s : Setting) (c : Context) (all : Statements) (old : Written) (known : Known) (now : Written) (rest : Statements) : Type 0 where
  pub here : Context
  pub knows : Walks s here known
  pub left : written_with (situated s here rest) now ≡ written_with (situated s c all) old

pub writes_all : (s : Setting) (c : Context) (all : Statements) (old : Written) (known : Known) → Walks s c known → Writes s c all old known old all
writes_all s c all old known knows = record { here = c; knows = knows; left = refl }

pub writes_next : (s : Setting) (c : Context) (all : Statements) (old : Written) (known next : Known) (now noted behind : Written) (x : Statement) (rest : Statements)
    → ((d : Context) → Walks s d known → noted ≡ written_with (at s d x ∷ []) now)
    → ((d : Context) → Walks s d known → behind ≡ written_with (situated_in s d x) noted)
    → ((d : Context) → Walks s d known → Walks s (after s d x) next)
    → Writes s c all old known now (x ▸ rest) → Writes s c all old next behind rest
writes_next s c all old known next now noted behind x rest notes holds goes stands =
    let d = stands.here in
    let own = at s d x ∷ [] in
    let inside = situated_in s d x in
    let others = situated s (after s d x) rest in
    record {
      here = after s d x;
      knows = goes d stands.knows;
      left =
          ap (written_with others) (holds d stands.knows ∙ ap (written_with inside) (notes d stands.knows))
          ∙ sym (both_written inside others (written_with own now))
          ∙ sym (both_written own (inside ++ others) now)
          ∙ stands.left;
    }

pub writes_none : (s : Setting) (c : Context) (all : Statements) (old : Written) (known : Known) (now : Written) → Writes s c all old known now none → now ≡ written_with (situated s c all) old
writes_none s c all old known now stands = sym (nothing_written now) ∙ stands.left

-- a statement that holds no others
pub holds_none : (s : Setting) (c : Context) (x : Statement) (now : Written) → situated_in s c x ≡ [] → now ≡ written_with (situated_in s c x) now
holds_none s c x now is = sym (ap (λ ys. written_with ys now) is ∙ nothing_written now)

-- the blocks of an `if`
pub holds_blocks : (s : Setting) (c : Context) (x : Statement) (one other : Context) (xs ys : Statements) (old middle new : Written)
    → situated_in s c x ≡ situated s one xs ++ situated s other ys
    → middle ≡ written_with (situated s one xs) old → new ≡ written_with (situated s other ys) middle → new ≡ written_with (situated_in s c x) old
holds_blocks s c x one other xs ys old middle new is first second =
    second ∙ ap (written_with (situated s other ys)) first ∙ sym (both_written (situated s one xs) (situated s other ys) old) ∙ sym (ap (λ zs. written_with zs old) is)
