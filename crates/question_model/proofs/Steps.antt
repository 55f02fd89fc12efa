-- A body on symbolic values follows the body on the heap.
use Rattle.std.proofs.Common.{◌≡◌, ℕ, zero, suc, ◌+◌, ◌==◌, ◌&&◌, if◌then◌else◌, Bool, true, false, List, [], ◌∷◌, ◌++◌, length, map, take, Option, Some, None, slice_get, slice_set, arith, refl, ap, ap₂, sym, subst, ◌∙◌}
use Rattle.std.proofs.lemmas.List.{length-map}
use Rattle.std.proofs.lemmas.Option.{slice_get_within}
use Rattle.easl_model.specs.{Change, Local, Statement, Write, body_of, constructor_of, fields_of}
use Rattle.easl_model.specs.Form.{Form}
use Rattle.easl_model.specs.Statements.{Statements, If, none, ◌▸◌}
use Rattle.easl_model.specs.declared.form.Reach as path
use Rattle.easl_model.specs.declared.form.Source.{Source}
use Rattle.easl_model.specs.declared.form.Source.TheVariants.{Reach, Make}
use Rattle.easl_heap.specs.Body as told
use Rattle.easl_heap.specs.{IsObjectOf, KeepsClasses, Object, fresh, object_at, write}
use Rattle.easl_heap.specs.Heap as heap_of
use Rattle.easl_heap.proofs.Whole.{adding_keeps, number_fresh, writing_keeps}
use Rattle.easl_heap.proofs.Writes.{at_last, is_object, object_of, write_length}
use Rattle.question_model.specs.{Done, Making, Outcome, State, argument, arguments, ended, holds, made, outcome, reached, returned, run, state, step, value}
use Rattle.question_model.specs.{written, written_in, ◌>>=◌}
use Rattle.question_model.specs.declared.answer.Answer.{Answer}
use Rattle.question_model.specs.declared.value.Value.TheVariants.{Before, Fresh, Nothing}
use Rattle.question_model.specs.declared.value.Value.{Value}
use Rattle.question_model.specs.declared.value.Write as values
use Rattle.question_model.proofs.Asking.{Agree, bound}
use Rattle.question_model.proofs.Conditions.{holds_so}
use Rattle.question_model.proofs.Following.{Follows, Leaves, good_last, good_set, good_take, last_is, reached_so, set_is, take_is}
use Rattle.easl_heap.proofs.Reading.{adding_wide, get_adding, get_write, write_no_field, writing_wide}
use Rattle.question_model.proofs.Meaning.{AllGood, IsGood, Matches, Start, denote, stay_good, stays_good, writes_stay}
use Rattle.question_model.proofs.Reading.{term_object}

module _ (form : Form) (variables : List (Option ℕ)) (before : List Object) (objects : List ℕ) where
  -- constructions on symbolic values follow those on the heap
  abbrev pub Simulates : Making → told.Making → Type 0
  Simulates make real = (class : ℕ) (vs : List Value) (writes : List values.Write) (count : ℕ) (heap : List Object) (steps : ℕ) (x : Outcome)
      → Matches form variables before objects writes count heap → AllGood form variables before objects heap vs → make class vs writes count ≡ Done x
      → Leaves form variables before objects x heap (real class (map (denote before objects) vs) heap steps)

  -- a write
  pub write_there : (ws : List values.Write) (count : ℕ) (heap : List Object) → Matches form variables before objects ws count heap
      → (class : ℕ) (owner : Value) → IsGood form variables before objects heap owner → IsObjectOf heap class (denote before objects owner)
      → (p : ℕ) (v : Value) → IsGood form variables before objects heap v → (o : Option ℕ) → slice_get (fields_of form class) p ≡ o
      → Matches form variables before objects (written_in class owner p v ws o) count (write heap (denote before objects owner) p (denote before objects v))
  write_there ws count heap m class owner good is p v good_v None at =
      subst (Matches form variables before objects ws count)
      (sym (write_no_field form heap class (denote before objects owner) p (denote before objects v) m.wide is at)) m
  write_there ws count heap m class owner good is p v good_v (Some of) at =
      let n = denote before objects owner in
      let new = write heap n p (denote before objects v) in
      let keeps = writing_keeps heap n p (denote before objects v) in
      let o = object_of heap class n is in
      record {
        made = write_length heap n p (denote before objects v) ∙ m.made;
        kept = λ c k was. keeps c k (m.kept c k was);
        wide = writing_wide form heap n p (denote before objects v) m.wide;
        good = (
          record {
            owner = stays_good form variables before objects heap new owner keeps good;
            of = keeps class n is;
            value = stays_good form variables before objects heap new v keeps good_v;
          },
          writes_stay form variables before objects heap new ws keeps m.good,
        );
        fields = λ k q.
            get_write heap n p (denote before objects v) k q o.0 o.1
            (omega (arith, slice_get_within (fields_of form class) p of at, m.wide n o.0 o.1, ap (λ c. length (fields_of form c)) o.2))
            ∙ ap (λ z. if n == k && p == q then denote before objects v else z) (m.fields k q);
      }

module _ (form : Form) (variables : List (Option ℕ)) (before : List Object) (objects : List ℕ) (start : Start form variables before objects) where
  pub written_so : (ws : List values.Write) (count : ℕ) (heap : List Object) → Matches form variables before objects ws count heap → (owner : Value)
      → IsGood form variables before objects heap owner → (p : ℕ) (v : Value) → IsGood form variables before objects heap v
      → Matches form variables before objects (written form owner p v ws) count (write heap (denote before objects owner) p (denote before objects v))
  written_so ws count heap m (Before class t) good p v good_v =
      write_there form variables before objects ws count heap m class (Before class t) good
      (m.kept class (denote before objects (Before class t)) (term_object form variables before objects start t class good)) p v good_v
      (slice_get (fields_of form class) p) refl
  written_so ws count heap m (Fresh class n) good p v good_v =
      write_there form variables before objects ws count heap m class (Fresh class n) good good p v good_v (slice_get (fields_of form class) p) refl
  written_so ws count heap m Nothing good p v good_v = m

  -- a fresh object
  adding_so : (ws : List values.Write) (count : ℕ) (heap : List Object) (class : ℕ) → Matches form variables before objects ws count heap
      → Matches form variables before objects ws (suc count) (heap ++ fresh form class ∷ [])
  adding_so ws count heap class m =
      let keeps = adding_keeps heap (fresh form class) in
      record {
        made = omega (arith, number_fresh heap (fresh form class), m.made);
        kept = λ c k was. keeps c k (m.kept c k was);
        wide = adding_wide form class heap m.wide;
        good = writes_stay form variables before objects heap (heap ++ fresh form class ∷ []) ws keeps m.good;
        fields = λ n p. get_adding form class heap n p ∙ m.fields n p;
      }

  fresh_good : (ws : List values.Write) (count : ℕ) (heap : List Object) (class : ℕ) → Matches form variables before objects ws count heap
      → IsGood form variables before objects (heap ++ fresh form class ∷ []) (Fresh class count)
  fresh_good ws count heap class m =
      let number : length heap + 1 ≡ length before + suc count = omega (arith, m.made) in
      subst (IsObjectOf (heap ++ fresh form class ∷ []) class) number
      (is_object (heap ++ fresh form class ∷ []) (length heap + 1) (fresh form class) (at_last heap (fresh form class)))

  fresh_is : (ws : List values.Write) (count : ℕ) (heap : List Object) (class : ℕ) → Matches form variables before objects ws count heap
      → length heap + 1 ≡ denote before objects (Fresh class count)
  fresh_is ws count heap class m = omega (arith, m.made)

  module _ (most : Option ℕ) (answers : List Answer) (agree : Agree before objects answers) where
    argument_so : (s : State) (heap : List Object) (slots : List ℕ) → Follows form variables before objects s heap slots
        → (a : Option path.Reach) (x : Value) → argument form most answers s a ≡ Done x
        → IsGood form variables before objects heap x × (denote before objects x ≡ told.argument heap slots a)
    argument_so s heap slots f None x done =
        let none : Nothing ≡ x = cc in
        subst (λ (y : Value). IsGood form variables before objects heap y × (denote before objects y ≡ 0)) none (tt, refl)
    argument_so s heap slots f (Some r) x done = reached_so form variables before objects start most answers agree s heap slots f r x done

    arguments_so : (s : State) (heap : List Object) (slots : List ℕ) → Follows form variables before objects s heap slots
        → (args : List (Option path.Reach)) (vs : List Value) → arguments form most answers s args ≡ Done vs
        → AllGood form variables before objects heap vs × (map (denote before objects) vs ≡ map (told.argument heap slots) args)
    arguments_so s heap slots f [] vs done =
        let none : [] ≡ vs = cc in
        subst (λ (ys : List Value). AllGood form variables before objects heap ys × (map (denote before objects) ys ≡ [])) none (tt, refl)
    arguments_so s heap slots f (a ∷ args) vs done =
        let two = bound (argument form most answers s a) (λ v. arguments form most answers s args >>= (λ us. Done (v ∷ us))) vs done in
        let more = bound (arguments form most answers s args) (λ us. Done (two.0 ∷ us)) vs two.2 in
        let first = argument_so s heap slots f a two.0 two.1 in
        let rest = arguments_so s heap slots f args more.0 more.1 in
        let all : two.0 ∷ more.0 ≡ vs = let e = more.2 in cc in
        subst (λ (ys : List Value). AllGood form variables before objects heap ys
        × (map (denote before objects) ys ≡ told.argument heap slots a ∷ map (told.argument heap slots) args)) all
        ((first.0, rest.0), ap₂ (λ n ns. n ∷ ns) first.1 rest.1)

    module _ (make : Making) (real : told.Making) (simulates : Simulates form variables before objects make real) where
      pub value_so : (s : State) (m : told.Moment) → Follows form variables before objects s m.heap m.slots → (v : Source) (x : Outcome)
          → value form most answers make v s ≡ Done x → Leaves form variables before objects x m.heap (told.value real v m)
      value_so s m f (Reach r) x done =
          let two = bound (reached form most answers s r) (λ v. Done (outcome s.writes s.count v)) x done in
          let got = reached_so form variables before objects start most answers agree s m.heap m.slots f r two.0 two.1 in
          let one : outcome s.writes s.count two.0 ≡ x = let e = two.2 in cc in
          subst (λ (y : Outcome). Leaves form variables before objects y m.heap (told.value real (Reach r) m)) one
          (record { matches = f.matches; kept = λ c k is. is; good = got.0; result = sym got.1 })
      value_so s m f (Make class args) x done =
          let two = bound (arguments form most answers s args) (λ vs. make class vs s.writes s.count) x done in
          let got = arguments_so s m.heap m.slots f args two.0 two.1 in
          subst (λ ns. Leaves form variables before objects x m.heap (real class ns m.heap m.steps)) got.1
          (simulates class two.0 s.writes s.count m.heap m.steps x f.matches got.0 two.2)

      -- where it goes from here, objects keep their classes
      abbrev Goes : told.Moment → State → told.Moment → Type 0
      Goes m t n = Follows form variables before objects t n.heap n.slots × KeepsClasses m.heap n.heap

      -- at the end of a list its locals end
      ended_so : (s : State) (m : told.Moment) → Follows form variables before objects s m.heap m.slots
          → (t : State) (n : told.Moment) → Goes m t n → Goes m (ended s t) (told.ended m n)
      ended_so s m f t n goes =
          let long : length m.slots ≡ length s.slots = ap length f.slots_are ∙ length-map s.slots (denote before objects) in (
            record {
              matches = goes.0.matches;
              slots_are = ap₂ take long goes.0.slots_are ∙ sym (take_is before objects (length s.slots) t.slots);
              good = good_take form variables before objects n.heap (length s.slots) t.slots goes.0.good;
            },
            goes.1,
          )

      -- one of the two lists is executed
      chosen : (s : State) (m : told.Moment) (first second : Statements)
          → ((t : State) → run form most answers make first s ≡ Done t → Goes m t (told.run real first m))
          → ((t : State) → run form most answers make second s ≡ Done t → Goes m t (told.run real second m))
          → (b : Bool) (t : State) → (if b then run form most answers make first s else run form most answers make second s) ≡ Done t
          → Goes m t (if b then told.run real first m else told.run real second m)
      chosen s m first second one other true t done = one t done
      chosen s m first second one other false t done = other t done

      mutual
        step_so : (a : Statement) (s : State) (m : told.Moment) → Follows form variables before objects s m.heap m.slots → (t : State)
            → step form most answers make a s ≡ Done t
            → Follows form variables before objects t (told.step real a m).heap (told.step real a m).slots × KeepsClasses m.heap (told.step real a m).heap
        step_so (Local v) s m f t done =
            let two = bound (value form most answers make v s) (λ x. Done (state (s.slots ++ x.result ∷ []) x.writes x.count)) t done in
            let l = value_so s m f v two.0 two.1 in
            let x : Outcome = two.0 in
            let o : told.Outcome = told.value real v m in
            let one : state (s.slots ++ x.result ∷ []) x.writes x.count ≡ t = let e = two.2 in cc in (
              subst (λ (y : State). Follows form variables before objects y o.heap (m.slots ++ o.result ∷ [])) one
                  (record {
                    matches = l.matches;
                    slots_are = ap₂ (λ ns n. ns ++ n ∷ []) f.slots_are l.result ∙ sym (last_is before objects s.slots x.result);
                    good = good_last form variables before objects o.heap s.slots x.result
                        (stay_good form variables before objects m.heap o.heap s.slots l.kept f.good) l.good;
                  }),
              l.kept,
            )
        step_so (Change slot v) s m f t done =
            let two = bound (value form most answers make v s) (λ x. Done (state (slice_set s.slots slot x.result) x.writes x.count)) t done in
            let l = value_so s m f v two.0 two.1 in
            let x : Outcome = two.0 in
            let o : told.Outcome = told.value real v m in
            let one : state (slice_set s.slots slot x.result) x.writes x.count ≡ t = let e = two.2 in cc in (
              subst (λ (y : State). Follows form variables before objects y o.heap (slice_set m.slots slot o.result)) one
                  (record {
                    matches = l.matches;
                    slots_are = ap₂ (λ ns n. slice_set ns slot n) f.slots_are l.result ∙ sym (set_is before objects s.slots slot x.result);
                    good = good_set form variables before objects o.heap s.slots slot x.result
                        (stay_good form variables before objects m.heap o.heap s.slots l.kept f.good) l.good;
                  }),
              l.kept,
            )
        step_so (Write target p v) s m f t done =
            let owned = bound (reached form most answers s target)
            (λ owner. value form most answers make v s >>= (λ x. Done (state s.slots (written form owner p x.result x.writes) x.count))) t done in
            let two = bound (value form most answers make v s) (λ x. Done (state s.slots (written form owned.0 p x.result x.writes) x.count)) t owned.2 in
            let got = reached_so form variables before objects start most answers agree s m.heap m.slots f target owned.0 owned.1 in
            let l = value_so s m f v two.0 two.1 in
            let x : Outcome = two.0 in
            let o : told.Outcome = told.value real v m in
            let n = heap_of.reached m.heap m.slots target in
            let one : state s.slots (written form owned.0 p x.result x.writes) x.count ≡ t = let e = two.2 in cc in
            let keeps = writing_keeps o.heap n p o.result in
            let both : KeepsClasses m.heap (write o.heap n p o.result) = λ c k is. keeps c k (l.kept c k is) in
            let new : Matches form variables before objects (written form owned.0 p x.result x.writes) x.count
            (write o.heap (denote before objects owned.0) p (denote before objects x.result)) = written_so x.writes x.count o.heap l.matches owned.0
            (stays_good form variables before objects m.heap o.heap owned.0 l.kept got.0) p x.result l.good in (
              subst (λ (y : State). Follows form variables before objects y (write o.heap n p o.result) m.slots) one
                  (record {
                    matches = subst (λ k. Matches form variables before objects (written form owned.0 p x.result x.writes) x.count (write o.heap n p k))
                        (sym l.result)
                        (subst (λ k. Matches form variables before objects (written form owned.0 p x.result x.writes) x.count
                        (write o.heap k p (denote before objects x.result))) got.1 new);
                    slots_are = f.slots_are;
                    good = stay_good form variables before objects m.heap (write o.heap n p o.result) s.slots both f.good;
                  }),
              both,
            )
        step_so (If c first second) s m f t done =
            let two = bound (holds form most answers s c)
            (λ b. (if b then run form most answers make first s else run form most answers make second s) >>= (λ u. Done (ended s u))) t done in
            let ran = bound (if two.0 then run form most answers make first s else run form most answers make second s) (λ u. Done (ended s u)) t two.2 in
            let is = holds_so form variables before objects start most answers agree s m.heap m.slots f c two.0 two.1 in
            let goes = chosen s m first second (λ u. run_so first s m f u) (λ u. run_so second s m f u) two.0 ran.0 ran.1 in
            let last : ended s ran.0 ≡ t = let e = ran.2 in cc in
            let all = ended_so s m f ran.0 (if two.0 then told.run real first m else told.run real second m) goes in
            subst (λ b. Goes m t (told.ended m (if b then told.run real first m else told.run real second m))) is
            (subst (λ (y : State). Goes m y (told.ended m (if two.0 then told.run real first m else told.run real second m))) last all)

        pub run_so : (xs : Statements) (s : State) (m : told.Moment) → Follows form variables before objects s m.heap m.slots → (t : State)
            → run form most answers make xs s ≡ Done t
            → Follows form variables before objects t (told.run real xs m).heap (told.run real xs m).slots × KeepsClasses m.heap (told.run real xs m).heap
        run_so none s m f t done =
            let one : s ≡ t = cc in
            (subst (λ (y : State). Follows form variables before objects y m.heap m.slots) one f, λ c k is. is)
        run_so (a ▸ xs) s m f t done =
            let two = bound (step form most answers make a s) (λ u. run form most answers make xs u) t done in
            let first = step_so a s (told.counted m) f two.0 two.1 in
            let m' : told.Moment = told.step real a (told.counted m) in
            let rest = run_so xs two.0 m' first.0 t two.2 in
            (rest.0, λ c k is. rest.1 c k (first.1 c k is))

      pub returned_so : (s : State) (m : told.Moment) → Follows form variables before objects s m.heap m.slots → (v : Option Source) (x : Outcome)
          → returned form most answers make v s ≡ Done x → Leaves form variables before objects x m.heap (told.returned real v m)
      returned_so s m f None x done =
          let one : outcome s.writes s.count Nothing ≡ x = cc in
          subst (λ (y : Outcome). Leaves form variables before objects y m.heap (told.outcome m.heap 0 m.steps)) one
          (record { matches = f.matches; kept = λ c k is. is; good = tt; result = refl })
      returned_so s m f (Some v) x done = value_so s (told.counted m) f v x done

    -- a construction
    pub made_so : (depth : ℕ) → Simulates form variables before objects (made form most answers depth) (told.made form depth)
    made_so zero class vs ws count heap steps x m good done =
        let one : outcome ws (suc count) (Fresh class count) ≡ x = cc in
        subst (λ (y : Outcome). Leaves form variables before objects y heap (told.outcome (heap ++ fresh form class ∷ []) (length heap + 1) steps)) one
        (record {
          matches = adding_so ws count heap class m;
          kept = adding_keeps heap (fresh form class);
          good = fresh_good ws count heap class m;
          result = fresh_is ws count heap class m;
        })
    made_so (suc depth) class vs ws count heap steps x m good done =
        let xs = body_of form (constructor_of form class) in
        let new = heap ++ fresh form class ∷ [] in
        let begun : State = state (Fresh class count ∷ vs) ws (suc count) in
        let start' : told.Moment = told.moment new ((length heap + 1) ∷ map (denote before objects) vs) steps in
        let keeps = adding_keeps heap (fresh form class) in
        let f : Follows form variables before objects begun new ((length heap + 1) ∷ map (denote before objects) vs) = record {
          matches = adding_so ws count heap class m;
          slots_are = ap (λ n. n ∷ map (denote before objects) vs) (fresh_is ws count heap class m);
          good = (fresh_good ws count heap class m, stay_good form variables before objects heap new vs keeps good);
        } in
        let two = bound (run form most answers (made form most answers depth) xs begun) (λ s. Done (outcome s.writes s.count (Fresh class count))) x done in
        let ran = run_so (made form most answers depth) (told.made form depth) (made_so depth) xs begun start' f two.0 two.1 in
        let s : State = two.0 in
        let last : told.Moment = told.run (told.made form depth) xs start' in
        let one : outcome s.writes s.count (Fresh class count) ≡ x = let e = two.2 in cc in
        subst (λ (y : Outcome). Leaves form variables before objects y heap (told.outcome last.heap (length heap + 1) last.steps)) one
        (record {
          matches = ran.0.matches;
          kept = λ c k is. ran.1 c k (keeps c k is);
          good = ran.1 class (length before + suc count) (fresh_good ws count heap class m);
          result = fresh_is ws count heap class m;
        })
