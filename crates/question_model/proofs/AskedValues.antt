-- Values are of terms of the question's variables, within the limit of fields, and these terms are compared.
use Rattle.std.proofs.Common.{◌≡◌, ℕ, zero, suc, ◌≤◌, ◌&&◌, Bool, true, false, if◌then◌else◌, List, [], ◌∷◌, ◌++◌, length, Option, Some, None, slice_get, slice_index_or, arith, refl, ltb-true, length-append}
use Rattle.std.specs.Prelude.{IfSome}
use Rattle.std.specs.declared.cmp.Ordering.{Ordering}
use Rattle.std.specs.declared.cmp.Ordering.TheVariants.{Less, Equal, Greater}
use Rattle.easl_model.specs.{fields_of}
use Rattle.easl_model.specs.Form.{Form}
use Rattle.easl_model.specs.declared.form.Reach.{Reach}
use Rattle.access_paths.specs.{IsTermOf, compare_terms, field}
use Rattle.access_paths.specs.declared.term.Term.{Term}
use Rattle.question_model.specs.{Done, IsTerm, Long, Needs, State, answered, are_same, by_order, compared, extended, field_of, is_found, is_term, is_write_of}
use Rattle.question_model.specs.{led, may_grow, reached, through, unwritten, ◌>>=◌}
use Rattle.question_model.specs.Stage.{Stage}
use Rattle.question_model.specs.declared.answer.Answer.{Answer}
use Rattle.question_model.specs.declared.value.Value.{Value}
use Rattle.question_model.specs.declared.value.Value.TheVariants.{Before, Fresh, Nothing}
use Rattle.question_model.specs.declared.value.Write as values
use Rattle.question_model.proofs.Orders.{greater_less}
use Rattle.question_model.proofs.Reading.{lead_on}

one_longer : (most : Option ℕ) (ps : List ℕ) (p : ℕ) → may_grow most (length ps) ≡ true → IfSome most (λ n. length (ps ++ p ∷ []) ≤ n)
one_longer None ps p may = tt
one_longer (Some n) ps p may = omega (arith, length-append ps (p ∷ []), ltb-true (length ps) n may)

module _ (form : Form) (most : Option ℕ) (variables : List (Option ℕ)) where
  -- what is needed is between terms of the variables, and what is done has this
  abbrev pub Comes : {A : Type 0} → (A → Type 0) → Stage A → Type 0
  Comes P (Done x) = P x
  Comes P (Needs t u) = IsTerm form most variables t × IsTerm form most variables u × (compare_terms t u ≡ Less)
  Comes P Long = Unit {0}

  pub comes_on : {A B : Type 0} (P : A → Type 0) (Q : B → Type 0) (s : Stage A) (f : A → Stage B) → Comes P s → ((x : A) → P x → Comes Q (f x))
      → Comes Q (s >>= f)
  comes_on P Q (Done x) f so on = on x so
  comes_on P Q (Needs t u) f so on = so
  comes_on P Q Long f so on = tt

  pub comes_if : {A : Type 0} (P : A → Type 0) (b : Bool) (s t : Stage A) → Comes P s → Comes P t → Comes P (if b then s else t)
  comes_if P true s t so also = so
  comes_if P false s t so also = also

  abbrev pub IsShort : List ℕ → Type 0
  IsShort ps = IfSome most (λ n. length ps ≤ n)

  abbrev pub IsFine : Value → Type 0
  IsFine (Before class t) = IsTermOf form variables t class × IsShort t.fields
  IsFine (Fresh class n) = Unit {0}
  IsFine Nothing = Unit {0}

  abbrev pub AllFine : List Value → Type 0
  AllFine [] = Unit {0}
  AllFine (v ∷ vs) = IsFine v × AllFine vs

  abbrev pub FineWrites : List values.Write → Type 0
  FineWrites [] = Unit {0}
  FineWrites (w ∷ ws) = IsFine w.owner × IsFine w.value × FineWrites ws

  abbrev pub SomeAnswer : Bool → Type 0
  SomeAnswer b = Unit {0}

  is_term_of : (t : Term) (class : ℕ) → IsTermOf form variables t class → IsShort t.fields → IsTerm form most variables t
  is_term_of t class is short = record { class = class; is = is; short = short }

  module _ (answers : List Answer) where
    answered_comes : (others : List Answer) (t u : Term) → IsTerm form most variables t → IsTerm form most variables u → compare_terms t u ≡ Less
        → Comes SomeAnswer (answered others t u)
    answered_comes [] t u is also less = (is, also, less)
    answered_comes (a ∷ rest) t u is also less =
        comes_if SomeAnswer (is_term a.less t && is_term a.more u) (Done a.same) (answered rest t u) tt (answered_comes rest t u is also less)

    by_order_comes : (o : Ordering) (t u : Term) → compare_terms t u ≡ o → IsTerm form most variables t → IsTerm form most variables u
        → Comes SomeAnswer (by_order answers o t u)
    by_order_comes Less t u e is also = answered_comes answers t u is also e
    by_order_comes Equal t u e is also = tt
    by_order_comes Greater t u e is also = answered_comes answers u t also is (greater_less t u e)

    pub are_same_comes : (v w : Value) → IsFine v → IsFine w → Comes SomeAnswer (are_same answers v w)
    are_same_comes (Before c t) (Before d u) is also =
        by_order_comes (compare_terms t u) t u refl (is_term_of t c is.0 is.1) (is_term_of u d also.0 also.1)
    are_same_comes (Before c t) (Fresh d n) is also = tt
    are_same_comes (Before c t) Nothing is also = tt
    are_same_comes (Fresh c m) (Before d u) is also = tt
    are_same_comes (Fresh c m) (Fresh d n) is also = tt
    are_same_comes (Fresh c m) Nothing is also = tt
    are_same_comes Nothing (Before d u) is also = tt
    are_same_comes Nothing (Fresh d n) is also = tt
    are_same_comes Nothing Nothing is also = tt

    extended_comes : (t : Term) (class p : ℕ) → IsTermOf form variables t class → (o : Option ℕ) → slice_get (fields_of form class) p ≡ o
        → Comes IsFine (extended most t p o)
    extended_comes t class p is None at = tt
    extended_comes t class p is (Some of) at = short (may_grow most (length t.fields)) refl
      where
        short : (b : Bool) → may_grow most (length t.fields) ≡ b → Comes IsFine (if b then Done (Before of (field t p)) else Long)
        short true few = (
          record { start = is.start; variable = is.variable; leads = lead_on form is.start t.fields p class of is.leads at },
          one_longer most t.fields p few,
        )
        short false few = tt

    unwritten_comes : (v : Value) (p : ℕ) → IsFine v → Comes IsFine (unwritten form most v p)
    unwritten_comes (Before class t) p is = extended_comes t class p is.0 (slice_get (fields_of form class) p) refl
    unwritten_comes (Fresh class n) p is = tt
    unwritten_comes Nothing p is = tt

    through_comes : (class : ℕ) (v : Value) (p : ℕ) → IsFine v → (ws : List values.Write) → FineWrites ws
        → Comes IsFine (through form most answers class v p ws)
    through_comes class v p is [] fine = unwritten_comes v p is
    through_comes class v p is (w ∷ ws) fine =
        let older = through_comes class v p is ws fine.2 in
        comes_on SomeAnswer IsFine (is_found answers class v p w) (λ found. if found then Done w.value else through form most answers class v p ws)
        (comes_if SomeAnswer (is_write_of class p w) (are_same answers w.owner v) (Done false) (are_same_comes w.owner v fine.0 is) tt)
        (λ found any. comes_if IsFine found (Done w.value) (through form most answers class v p ws) fine.1 older)

    field_comes : (ws : List values.Write) → FineWrites ws → (v : Value) (p : ℕ) → IsFine v → Comes IsFine (field_of form most answers ws v p)
    field_comes ws fine (Before class t) p is = through_comes class (Before class t) p is ws fine
    field_comes ws fine (Fresh class n) p is = through_comes class (Fresh class n) p is ws fine
    field_comes ws fine Nothing p is = tt

    pub led_comes : (ws : List values.Write) → FineWrites ws → (ps : List ℕ) (v : Value) → IsFine v → Comes IsFine (led form most answers ws v ps)
    led_comes ws fine [] v is = is
    led_comes ws fine (p ∷ ps) v is =
        comes_on IsFine IsFine (field_of form most answers ws v p) (λ x. led form most answers ws x ps) (field_comes ws fine v p is)
        (λ x so. led_comes ws fine ps x so)

    pub slot_fine : (vs : List Value) (k : ℕ) → AllFine vs → IsFine (slice_index_or vs k Nothing)
    slot_fine [] k fine = tt
    slot_fine (v ∷ vs) zero fine = fine.0
    slot_fine (v ∷ vs) (suc k) fine = slot_fine vs k fine.1

    abbrev pub FineState : State → Type 0
    FineState s = AllFine s.slots × FineWrites s.writes

    pub reached_comes : (s : State) → FineState s → (r : Reach) → Comes IsFine (reached form most answers s r)
    reached_comes s fine r = led_comes s.writes fine.1 r.fields (slice_index_or s.slots r.slot Nothing) (slot_fine s.slots r.slot fine.0)

    pub compared_comes : (s : State) → FineState s → (left right : Reach) → Comes SomeAnswer (compared form most answers s left right)
    compared_comes s fine left right =
        comes_on IsFine SomeAnswer (reached form most answers s left) (λ v. reached form most answers s right >>= (λ w. are_same answers v w))
        (reached_comes s fine left)
        (λ v is. comes_on IsFine SomeAnswer (reached form most answers s right) (λ w. are_same answers v w) (reached_comes s fine right)
        (λ w also. are_same_comes v w is also))
