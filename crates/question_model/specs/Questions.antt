-- Questions: whether a cube is true after a method's body, and whether a clause is false.
use Rattle.std.specs.Prelude.{ℕ, suc, Bool, true, false, not, List, [], ◌∷◌, Option, Some, None, if◌then◌else◌, slice_index_or}
use Rattle.easl_model.specs.{Condition}
use Rattle.easl_model.specs.Form.{Form}
use Rattle.easl_model.specs.declared.form.Method.{Method}
use Rattle.access_paths.specs.{family_classes, put, term}
use Rattle.access_paths.specs.declared.term.Family.{Family}
use Rattle.access_paths.specs.declared.term.Literal.{Literal}
use Rattle.access_paths.specs.declared.term.Term.{Term}
use Rattle.question_model.specs.Bodies.{called}
use Rattle.question_model.specs.Stage.{Stage, Done, ◌>>=◌}
use Rattle.question_model.specs.States.{holds, state}
use Rattle.question_model.specs.Values.{are_same, led}
use Rattle.question_model.specs.declared.answer.Answer.{Answer}
use Rattle.question_model.specs.declared.value.Value.TheVariants.{Before, Nothing}
use Rattle.question_model.specs.declared.value.Value.{Value}
use Rattle.question_model.specs.declared.value.Write.{Write}

-- the value of the variable of this number before the call: none where it is opaque or not there
abbrev pub variable : ℕ → Option ℕ → Value
variable n None = Nothing
variable n (Some class) = Before class (term n [])

-- variables of these classes, from this number on
abbrev pub variables : ℕ → List (Option ℕ) → List Value
variables n [] = []
variables n (class ∷ rest) = variable n class ∷ variables (suc n) rest

-- `this`, where there is a receiver, and the parameters
abbrev pub arguments_of : Method → List Value
arguments_of m = if m.constructor then variables 4 m.params else variable 3 (Some m.class) ∷ variables 4 m.params

-- the family's variables after the call: those at the result positions stand for its result
abbrev pub after_call : Family → ℕ → Value → List Value
after_call f results result = put results result (variables 0 (family_classes f))

module _ (form : Form) (most : Option ℕ) (answers : List Answer) where
  abbrev pub term_after : List Write → List Value → Term → Stage Value
  term_after writes values t = led form most answers writes (slice_index_or values t.var.0 Nothing) t.fields

  abbrev pub literal_after : List Write → List Value → Literal → Stage Bool
  literal_after writes values l =
      term_after writes values l.less >>= λ v. term_after writes values l.more
      >>= λ w. are_same answers v w >>= λ same. Done (if l.same then same else not same)

  -- the literals in their order, up to the first one that is false
  abbrev pub cube_after : List Write → List Value → List Literal → Stage Bool
  cube_after writes values [] = Done true
  cube_after writes values (l ∷ ls) = literal_after writes values l >>= λ b. if b then cube_after writes values ls else Done false

  -- whether the family's cube is true after the method's body
  abbrev pub update : Method → Family → ℕ → Stage Bool
  update m family results =
      called form most answers m (arguments_of m)
      >>= λ x. cube_after x.writes (after_call family results x.result) family.cube.literals

  -- whether the clause is false before the call
  abbrev pub fails : Method → Condition → Stage Bool
  fails m c = holds form most answers (state (arguments_of m) [] 0) c >>= λ b. Done (not b)
