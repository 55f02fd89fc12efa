-- Path programs: what the segments of an alarm describe.
use Rattle.std.specs.Prelude.{◌≡◌, ℕ, ◌<◌, Bool, true, false, List, [], ◌∷◌, ◌++◌, Some, map, slice_get}
use Rattle.client_walks.specs.Paths.{Entry, Path, choices_along, inside, start}
use Rattle.client_facts.specs.Setting.{IsCall, IsStep, Setting, exit_of}
use Rattle.client_walks.specs.Walks.{Walk, outcome_at}
use Rattle.client_walks.specs.Walks as walk
use Rattle.client_walks.specs.declared.alarm.Alarm.{Alarm}
use Rattle.client_walks.specs.declared.alarm.Item.{Item}
use Rattle.client_walks.specs.declared.alarm.Item.TheVariants.{Inside, Test}
use Rattle.client_walks.specs.declared.alarm.PathProgram.{PathProgram}
use Rattle.client_walks.specs.declared.alarm.Segment.{Segment}
use Rattle.client_model.specs.declared.form.CallSite.{CallSite}
use Rattle.client_steps.specs.States.{Call, point_at}

-- the segment of this number
abbrev pub IsSegment : PathProgram → ℕ → Segment → Type 0
IsSegment program number s = slice_get program.segments number ≡ Some s

-- a later segment, of the procedure
pub record IsLater (program : PathProgram) (number other p : ℕ) (s : Segment) : Type 0 where
  pub later : number < other
  pub there : IsSegment program other s
  pub procedure : s.procedure ≡ p

-- the items that a step takes: one at a test, and none elsewhere
abbrev pub items_at : Setting → ℕ → ℕ → Bool → List Item
items_at g p n b = map Test (outcome_at (point_at g.client p n) b)

-- these items of the segment of this number describe the walk: each test and each procedure call takes one, and what is called has returned
pub data Describes (g : Setting) (program : PathProgram) : ℕ → (p n : ℕ) → List Item → Walk g p n → Type 0 where
  begins : (number p : ℕ) → Describes g program number p 0 [] (walk.begin p)
  steps : (number p n m : ℕ) (b : Bool) (items : List Item) (w : Walk g p n) (is : IsStep g p n b m) → Describes g program number p n items w →
      Describes g program number p m (items ++ items_at g p n b) (walk.step p n m b w is)
  calls : (number p n m other : ℕ) (k : Call) (items : List Item) (w : Walk g p n) (is : IsCall g p n k m) (s : Segment)
      (inner : Walk g k.callee (exit_of g k.callee)) → Describes g program number p n items w → IsLater program number other k.callee s →
      Describes g program other k.callee (exit_of g k.callee) s.items inner →
      Describes g program number p m (items ++ Inside n other true ∷ []) (walk.call p n m k w is inner)

-- the segment of this number is of what is entered so: segment 0 of what the start calls, and another one of what is called where the items of
-- one before it end, at a call that has not returned
pub data IsEnteredBy (g : Setting) (program : PathProgram) : ℕ → (p : ℕ) → Entry g p → Type 0 where
  main : (n m : ℕ) (k : Call) (w : Walk g 0 n) (is : IsCall g 0 n k m) → IsEnteredBy g program 0 k.callee (inside 0 n m k start w is)
  later : (number other p n m : ℕ) (k : Call) (items : List Item) (into : Entry g p) (w : Walk g p n) (is : IsCall g p n k m) (s t : Segment) →
      IsEnteredBy g program number p into → IsSegment program number s → s.procedure ≡ p → s.items ≡ items ++ Inside n other false ∷ [] →
      Describes g program number p n items w → IsLater program number other k.callee t →
      IsEnteredBy g program other k.callee (inside p n m k into w is)

-- the call of this number stands at the point
pub record StandsAt (g : Setting) (call p n : ℕ) : Type 0 where
  pub site : CallSite
  pub site_is : slice_get g.client.calls call ≡ Some site
  pub procedure : site.procedure ≡ p
  pub point : site.point ≡ n

-- the path that the alarm's program describes, to the named call. Where that stands in an initialiser, segment 0 is of what the start calls, and
-- has no items
pub data IsPathOf (g : Setting) (a : Alarm) : (p n : ℕ) → Path g p n → Type 0 where
  in_initialiser : (n l m : ℕ) (k : Call) (w : Walk g 0 n) (s : Segment) → StandsAt g a.call 0 n → IsCall g 0 l k m →
      IsSegment a.path 0 s → s.procedure ≡ k.callee → s.items ≡ [] → IsPathOf g a 0 n (record { entry = start; walk = w })
  at_call : (number p n : ℕ) (into : Entry g p) (w : Walk g p n) (s : Segment) → StandsAt g a.call p n → IsEnteredBy g a.path number p into →
      IsSegment a.path number s → s.procedure ≡ p → Describes g a.path number p n s.items w → IsPathOf g a p n (record { entry = into; walk = w })

-- segment 0 and all segments that it names, directly or through others, describe a path to the named call
pub record IsWellBuilt (g : Setting) (a : Alarm) : Type 0 where
  pub procedure : ℕ
  pub point : ℕ
  pub path : Path g procedure point
  pub of : IsPathOf g a procedure point path

-- the outcomes of the tests along an alarm's path
abbrev pub choices_of : (g : Setting) (a : Alarm) → IsWellBuilt g a → List Bool
choices_of g a built = choices_along g built.procedure built.point built.path
