-- Symbolic values, the fields written so far, and what paths lead to through them.
use Rattle.std.specs.Prelude.{◌==◌, ℕ, Bool, true, false, ◌&&◌, List, [], ◌∷◌, Option, Some, None, if◌then◌else◌, length, nat_lt, slice_get}
use Rattle.easl_model.specs.{fields_of}
use Rattle.easl_model.specs.Form.{Form}
use Rattle.access_paths.specs.{field}
use Rattle.access_paths.specs.declared.term.Term.{Term}
use Rattle.question_model.specs.Stage.{Stage, Done, Long, ask, ◌>>=◌}
use Rattle.question_model.specs.declared.answer.Answer.{Answer}
use Rattle.question_model.specs.declared.value.Value.{Value}
use Rattle.question_model.specs.declared.value.Value.TheVariants.{Before, Fresh, Nothing}
use Rattle.question_model.specs.declared.value.Write.{Write}

-- whether two values are one: two fresh objects are if they are the same one, and none of them is what a term led to
abbrev pub are_same : List Answer → Value → Value → Stage Bool
are_same answers (Before c t) (Before d u) = ask answers t u
are_same answers (Before c t) (Fresh d n) = Done false
are_same answers (Before c t) Nothing = Done false
are_same answers (Fresh c m) (Before d u) = Done false
are_same answers (Fresh c m) (Fresh d n) = Done (m == n)
are_same answers (Fresh c m) Nothing = Done false
are_same answers Nothing (Before d u) = Done false
are_same answers Nothing (Fresh d n) = Done false
are_same answers Nothing Nothing = Done true

-- whether a term of so many fields may have one more, where it may have at most so many; None sets no limit
abbrev pub may_grow : Option ℕ → ℕ → Bool
may_grow None fields = true
may_grow (Some most) fields = nat_lt fields most

-- the term with the field added, of the field's class, if the class has such a field
abbrev pub extended : Option ℕ → Term → ℕ → Option ℕ → Stage Value
extended most t position None = Done Nothing
extended most t position (Some class) = if may_grow most (length t.fields) then Done (Before class (field t position)) else Long

-- a field to which no write was found: that of the object as it was before
abbrev pub unwritten : Form → Option ℕ → Value → ℕ → Stage Value
unwritten form most (Before class t) position = extended most t position (slice_get (fields_of form class) position)
unwritten form most (Fresh class n) position = Done Nothing
unwritten form most Nothing position = Done Nothing

-- a write to a field at this position of objects of this class
abbrev pub is_write_of : ℕ → ℕ → Write → Bool
is_write_of class position w = w.class == class && w.position == position

-- whether a write is of this field of this object of the class
abbrev pub is_found : List Answer → ℕ → Value → ℕ → Write → Stage Bool
is_found answers class v position w = if is_write_of class position w then are_same answers w.owner v else Done false

module _ (form : Form) (most : Option ℕ) (answers : List Answer) where
  -- a field of an object of a class: by the writes to that field, the newest first
  abbrev pub through : ℕ → Value → ℕ → List Write → Stage Value
  through class v position [] = unwritten form most v position
  through class v position (w ∷ older) =
      is_found answers class v position w >>= λ found. if found then Done w.value else through class v position older

  abbrev pub field_of : List Write → Value → ℕ → Stage Value
  field_of writes (Before class t) position = through class (Before class t) position writes
  field_of writes (Fresh class n) position = through class (Fresh class n) position writes
  field_of writes Nothing position = Done Nothing

  -- what the fields at these positions lead to
  abbrev pub led : List Write → Value → List ℕ → Stage Value
  led writes v [] = Done v
  led writes v (p ∷ ps) = field_of writes v p >>= λ x. led writes x ps

-- the writes after one more; where the object's class has no such field, nothing is written
abbrev pub written_in : ℕ → Value → ℕ → Value → List Write → Option ℕ → List Write
written_in class owner position value writes None = writes
written_in class owner position value writes (Some of) =
    record { class = class; owner = owner; position = position; value = value } ∷ writes

abbrev pub written : Form → Value → ℕ → Value → List Write → List Write
written form (Before class t) position value writes =
    written_in class (Before class t) position value writes (slice_get (fields_of form class) position)
written form (Fresh class n) position value writes =
    written_in class (Fresh class n) position value writes (slice_get (fields_of form class) position)
written form Nothing position value writes = writes
