-- What is done at a point that is no procedure call.
use Rattle.std.specs.Prelude.{ℕ, List, Option, Some, None, map, slice_get}
use Rattle.std.specs.Option.{option_map_or}
use Rattle.client_model.specs.declared.form.CallSite.{CallSite}
use Rattle.client_model.specs.declared.form.Point.{Point}
use Rattle.client_model.specs.declared.form.Point.TheVariants as point
use Rattle.client_model.specs.CheckedForm.{ClientForm}
use Rattle.client_steps.specs.States.{State, object_of, point_at, with_object}
use Rattle.easl_heap.specs.Body.{Outcome as Left, body}
use Rattle.easl_heap.specs.Clause.{requires_of}
use Rattle.easl_model.specs.Form.{Form}

-- a clause of the call of this number is false, the first of them, from 1; or the state is this, and so many Easl statements
-- were executed
pub data Deed : Type 0 where
  Broke : ℕ → ℕ → Deed
  Did : State → ℕ → Deed

-- a body was executed, and its result is assigned to the name
abbrev pub assigned : Option ℕ → Left → State → Deed
assigned target left s = Did (with_object target left.result (record s { heap = left.heap })) left.steps

-- a method is called on these objects: its clauses come first, in text order
abbrev pub answered : Form → Option ℕ → ℕ → ℕ → List ℕ → Option ℕ → State → Deed
answered form target call method args (Some clause) s = Broke call clause
answered form target call method args None s = assigned target (body form method args s.heap) s

abbrev pub made : Form → Option ℕ → ℕ → CallSite → State → Deed
made form target call site s =
    let args = map (object_of s) site.args
    in answered form target call site.method args (requires_of s.heap form site.method args) s

-- the component call of this number is made
abbrev pub called : Form → ClientForm → Option ℕ → ℕ → State → Deed
called form client target call s = option_map_or (λ site. made form target call site s) (slice_get client.calls call) (Did s 0)

abbrev pub done : Form → ClientForm → Point → State → Deed
done form client (point.Copy target source) s = Did (with_object target (object_of s source) s) 0
done form client (point.Component target call) s = called form client target call s
done form client (point.Call target procedure args place) s = Did s 0
done form client (point.Branch call) s = option_map_or (λ number. called form client None number s) call (Did s 0)
done form client point.Nothing s = Did s 0

abbrev pub done_at : Form → ClientForm → ℕ → ℕ → State → Deed
done_at form client p number s = option_map_or (λ x. done form client x s) (point_at client p number) (Did s 0)
