-- The readers of statements that hold no others read their grammar.
use Rattle.std.proofs.Common.{◌≡◌, ℕ, Bool, Some, None, List, [], ◌∷◌, ◌++◌, refl, sym, ◌∙◌, ap, subst, inl, inr}
use Rattle.easl_model.specs.Grammar.{IsType, opaque_type, class_type}
use Rattle.easl_model.specs.Lexemes.{word_of, IsMark, IsName}
use Rattle.easl_model.specs.declared.place.Place.{Place}
use Rattle.easl_model.specs.declared.token.Key.TheVariants as key
use Rattle.easl_model.specs.declared.token.Kind.{Kind}
use Rattle.easl_model.specs.declared.token.Kind.TheVariants as kind
use Rattle.easl_model.specs.declared.token.Mark.TheVariants as mark
use Rattle.easl_model.specs.declared.token.Token.{Token}
use Rattle.easl_model.specs.declared.tree.Opaque.{Opaque}
use Rattle.easl_model.specs.declared.tree.Sort.{Sort}
use Rattle.easl_model.specs.declared.tree.Sort.TheVariants as sort
use Rattle.easl_model.specs.declared.tree.Word.{Word}
use Rattle.client_model.specs.Grammar.{IsRhs, IsSet, set, IsAction, component_action, call_action, new_action, IsStmt, declare, declare_set, assign, act}
use Rattle.client_model.specs.declared.tree.Rhs.{Rhs}
use Rattle.client_model.specs.declared.tree.Rhs.TheVariants as rhs
use Rattle.client_model.specs.declared.tree.Stmt.{Stmt}
use Rattle.client_model.specs.declared.tree.Stmt.TheVariants as stmt
use Rattle.cv_read.specs.Read.{is_mark, is_key, is_name, nothing_of, place_of}
use Rattle.cv_read.specs.Types.{is_opaque, opaque_of, placed_opaque, type_starts}
use Rattle.cv_read.proofs.Laws.{Lang, Is, none, either, Front, Apart, Mapped, Or, End, front_less}
use Rattle.cv_read.proofs.Levels.{mark_flat, key_flat, name_flat}
use Rattle.cv_read.proofs.Repeats.{or_left, or_right}
use Rattle.cv_read.proofs.Tested.{mark_to, mark_from, name_to, name_from}
use Rattle.cv_read.proofs.TypeLaws.{opaque_flat, opaque_from, opaque_same, opaque_to}
use Rattle.cv_read.proofs.Within.{ReadsWithin, got_within, mapped_within, respell_within, closed_within, led_within, two_ways_within}
use Rattle.cv_read.proofs.Words.{Led, Closed, led_starts}
use Rattle.client_parser.specs.Reading.{set_at, declare_at, done_by, action_behind, new_done_at, named_stmt_at, simple_at, simple_starts}
use Rattle.client_parser.proofs.ValueLaws.{ComponentTail, CallTail, NewTail, component_to, component_from, component_tail_begins, component_tail_within}
use Rattle.client_parser.proofs.ValueLaws.{call_to, call_from, call_tail_begins, call_tail_within, new_to, new_from, new_tail_within, rhs_within}

assign_no_semicolon : Apart (is_mark mark.Assign) (is_mark mark.Semicolon)
assign_no_semicolon (kind.Mark mark.Assign) f g = g
assign_no_semicolon k f g = f

open_no_dot : Apart (is_mark mark.Open) (is_mark mark.Dot)
open_no_dot (kind.Mark mark.Open) f g = g
open_no_dot k f g = f

-- what may stand behind a name that is used
abbrev ActionStarts : Kind → Bool
ActionStarts = either (is_mark mark.Dot) (is_mark mark.Open)

action_no_assign : Apart ActionStarts (is_mark mark.Assign)
action_no_assign (kind.Mark mark.Assign) f g = f
action_no_assign k f g = g

abbrev UsedStarts : Kind → Bool
UsedStarts = either (is_mark mark.Assign) ActionStarts

used_no_name : Apart UsedStarts is_name
used_no_name kind.Name f g = f
used_no_name k f g = g

opaque_no_name : Apart is_opaque is_name
opaque_no_name kind.Name f g = f
opaque_no_name k f g = g

type_no_new : Apart type_starts (is_key key.New)
type_no_new (kind.Key key.New) f g = f
type_no_new k f g = g

module _ (text : List ℕ) where
  -- "=" rhs ";"
  abbrev SetLang : Lang Rhs
  SetLang = Led (is_mark mark.Assign) nothing_of (λ _. Closed mark.Semicolon (IsRhs text))

  set_to : (w : List Token) (x : Rhs) → SetLang w x → IsSet text w x
  set_to w x h = subst (λ m. IsSet text m x) (sym (h.4 ∙ ap (λ u. h.0 ∷ u) h.3.4)) (set (mark_to mark.Assign h.0 h.2) h.3.2 (mark_to mark.Semicolon h.3.1 h.3.3))

  set_from : (w : List Token) (x : Rhs) → IsSet text w x → SetLang w x
  set_from w x (set {assign = a} {semicolon = k} {ts = ts} i h j) =
      (a, ts ++ k ∷ [], mark_from mark.Assign a i, (ts, k, h, mark_from mark.Semicolon k j, refl), refl)

  set_within : (G : Kind → Bool) (d : ℕ) → ReadsWithin (set_at text) (IsSet text) G d
  unfolding set_at
  set_within G d = respell_within set_to set_from
      (led_within (is_mark mark.Assign) nothing_of (kind.Mark mark.Assign) tt (mark_flat mark.Assign (λ b. refl))
      (λ _. closed_within mark.Semicolon G (mark_flat mark.Semicolon (λ b. refl)) (λ g. g) (rhs_within text d)))

  set_begins : (w : List Token) (x : Rhs) → IsSet text w x → Front (is_mark mark.Assign) w
  set_begins w x (set {assign = a} i h j) = mark_from mark.Assign a i

  -- declarations behind their types, which begin at the place
  abbrev DeclareBehind : Place → Sort → Word → Lang Stmt
  DeclareBehind at s n = Or (Led (is_mark mark.Semicolon) nothing_of (λ _. End (stmt.Declare at s n None))) (Mapped (IsSet text) (λ x. stmt.Declare at s n (Some x)))

  abbrev DeclareTail : Place → Sort → Lang Stmt
  DeclareTail at s = Led is_name (word_of text) (DeclareBehind at s)

  declare_tail_within : (at : Place) (s : Sort) (G : Kind → Bool) (d : ℕ) → ReadsWithin (declare_at text at s) (DeclareTail at s) G d
  declare_tail_within at s G d = led_within is_name (word_of text) kind.Name tt name_flat
      (λ n. two_ways_within (is_mark mark.Semicolon) (is_mark mark.Assign)
      (led_starts (is_mark mark.Semicolon) nothing_of (λ _. End (stmt.Declare at s n None)))
      (λ w x h. set_begins w h.0 h.1) assign_no_semicolon
      (led_within (is_mark mark.Semicolon) nothing_of (kind.Mark mark.Semicolon) tt (mark_flat mark.Semicolon (λ b. refl))
      (λ _. got_within (stmt.Declare at s n None) G d))
      (mapped_within (λ x. stmt.Declare at s n (Some x)) (set_within G d)))

  declare_to : (t : Token) (s : Sort) → IsType text (t ∷ []) s → (u : List Token) (x : Stmt) → DeclareTail t.place s u x → IsStmt text (t ∷ u) x
  declare_to t s i u x h = by h.3
    where
      name : IsName text h.0 (word_of text h.0)
      name = name_to text h.0 (word_of text h.0) h.2 refl

      by : DeclareBehind t.place s (word_of text h.0) h.1 x → IsStmt text (t ∷ u) x
      by (inl l) =
          let e : u ≡ h.0 ∷ l.0 ∷ [] = h.4 ∙ ap (λ v. h.0 ∷ v) (l.4 ∙ ap (λ v. l.0 ∷ v) l.3.0) in
          subst (IsStmt text (t ∷ u)) (sym l.3.1) (subst (λ m. IsStmt text (t ∷ m) (stmt.Declare t.place s (word_of text h.0) None)) (sym e)
          (declare i name (mark_to mark.Semicolon l.0 l.2)))
      by (inr l) = subst (IsStmt text (t ∷ u)) (sym l.2) (subst (λ m. IsStmt text (t ∷ m) (stmt.Declare t.place s (word_of text h.0) (Some l.0))) (sym h.4)
          (declare_set i name l.1))

  -- actions behind their first tokens, and their semicolons
  abbrev ActionTail : Word → Lang Rhs
  ActionTail w = Or (Mapped (ComponentTail text w) rhs.Component) (CallTail text w)

  abbrev DoTail : Word → Lang Stmt
  DoTail w = Mapped (Closed mark.Semicolon (ActionTail w)) stmt.Do

  abbrev NewDone : Lang Stmt
  NewDone = Led (is_key key.New) place_of (λ at. Mapped (Closed mark.Semicolon (NewTail text at)) stmt.Do)

  action_begins : (w : Word) (u : List Token) (x : Rhs) → ActionTail w u x → Front ActionStarts u
  action_begins w u x (inl h) = front_less (is_mark mark.Dot) ActionStarts (λ k f. or_left (is_mark mark.Dot k) (is_mark mark.Open k) f) u
      (component_tail_begins text w u x h)
  action_begins w u x (inr h) = front_less (is_mark mark.Open) ActionStarts (λ k f. or_right (is_mark mark.Dot k) (is_mark mark.Open k) f) u
      (call_tail_begins text w u x h)

  do_begins : (w : Word) (u : List Token) (x : Stmt) → DoTail w u x → Front ActionStarts u
  do_begins w u x h = subst (Front ActionStarts) (sym h.1.4) (by h.1.0 (action_begins w h.1.0 h.0 h.1.2))
    where
      by : (v : List Token) → Front ActionStarts v → Front ActionStarts (v ++ h.1.1 ∷ [])
      by [] f = absurd f
      by (t ∷ v) f = f

  action_tail_within : (w : Word) (G : Kind → Bool) (d : ℕ) → ReadsWithin (action_behind text w) (ActionTail w) G d
  action_tail_within w G d = two_ways_within (is_mark mark.Dot) (is_mark mark.Open) (component_tail_begins text w) (call_tail_begins text w) open_no_dot
      (mapped_within rhs.Component (component_tail_within text w G d)) (call_tail_within text w G d)

  do_tail_within : (w : Word) (G : Kind → Bool) (d : ℕ) → ReadsWithin (done_by (action_behind text w)) (DoTail w) G d
  do_tail_within w G d = mapped_within stmt.Do (closed_within mark.Semicolon G (mark_flat mark.Semicolon (λ b. refl)) (λ g. g) (action_tail_within w none d))

  new_done_within : (G : Kind → Bool) (d : ℕ) → ReadsWithin (new_done_at text) NewDone G d
  new_done_within G d = led_within (is_key key.New) place_of (kind.Key key.New) tt (key_flat key.New)
      (λ at. mapped_within stmt.Do (closed_within mark.Semicolon G (mark_flat mark.Semicolon (λ b. refl)) (λ g. g) (new_tail_within text at none d)))

  action_to : (t : Token) → Is (is_name t.kind) → (u : List Token) (x : Rhs) → ActionTail (word_of text t) u x → IsAction text (t ∷ u) x
  action_to t i u x (inl h) = subst (IsAction text (t ∷ u)) (sym h.2) (component_action (component_to text t i u h.0 h.1))
  action_to t i u x (inr h) = let c = call_to text t i u x h in subst (IsAction text (t ∷ u)) (sym c.2) (call_action c.1)

  done_to : (ts w : List Token) (k : Token) (x : Rhs) (z : Stmt) → IsAction text ts x → Is (is_mark mark.Semicolon k.kind) → w ≡ ts ++ k ∷ [] → z ≡ stmt.Do x
      → IsStmt text w z
  done_to ts w k x z a i e f = subst (IsStmt text w) (sym f) (subst (λ m. IsStmt text m (stmt.Do x)) (sym e) (act a (mark_to mark.Semicolon k i)))

  -- statements that begin with a name
  abbrev AssignTail : Word → Lang Stmt
  AssignTail n = Mapped (IsSet text) (stmt.Assign n)

  abbrev UsedTail : Word → Lang Stmt
  UsedTail w = Or (AssignTail w) (DoTail w)

  abbrev NamedTail : Word → Lang Stmt
  NamedTail w = Or (DeclareTail w.place (sort.Class w)) (UsedTail w)

  abbrev NamedLang : Lang Stmt
  NamedLang = Led is_name (word_of text) NamedTail

  used_begins : (w : Word) (u : List Token) (x : Stmt) → UsedTail w u x → Front UsedStarts u
  used_begins w u x (inl h) = front_less (is_mark mark.Assign) UsedStarts (λ k f. or_left (is_mark mark.Assign k) (ActionStarts k) f) u (set_begins u h.0 h.1)
  used_begins w u x (inr h) = front_less ActionStarts UsedStarts (λ k f. or_right (is_mark mark.Assign k) (ActionStarts k) f) u (do_begins w u x h)

  named_within : (G : Kind → Bool) (d : ℕ) → ReadsWithin (named_stmt_at text) NamedLang G d
  named_within G d = led_within is_name (word_of text) kind.Name tt name_flat
      (λ w. two_ways_within is_name UsedStarts (led_starts is_name (word_of text) (DeclareBehind w.place (sort.Class w))) (used_begins w) used_no_name
      (declare_tail_within w.place (sort.Class w) G d)
      (two_ways_within (is_mark mark.Assign) ActionStarts (λ u x h. set_begins u h.0 h.1) (do_begins w) action_no_assign
      (mapped_within (stmt.Assign w) (set_within G d)) (do_tail_within w G d)))

  named_to : (t : Token) → Is (is_name t.kind) → (u : List Token) (x : Stmt) → NamedTail (word_of text t) u x → IsStmt text (t ∷ u) x
  named_to t i u x (inl h) = declare_to t (sort.Class (word_of text t)) (class_type (name_to text t (word_of text t) i refl)) u x h
  named_to t i u x (inr (inl h)) = subst (IsStmt text (t ∷ u)) (sym h.2) (assign (name_to text t (word_of text t) i refl) h.1)
  named_to t i u x (inr (inr h)) = let l = h.1 in done_to (t ∷ l.0) (t ∷ u) l.1 h.0 x (action_to t i l.0 h.0 l.2) l.3 (ap (λ v. t ∷ v) l.4) h.2

  -- statements that begin with a type or with `new`
  abbrev OpaqueDeclare : Lang Stmt
  OpaqueDeclare = Led is_opaque placed_opaque (λ o. DeclareTail o.0 (sort.Opaque o.1))

  abbrev TypedLang : Lang Stmt
  TypedLang = Or NamedLang OpaqueDeclare

  opaque_begins : (w : List Token) (x : Stmt) → OpaqueDeclare w x → Front is_opaque w
  opaque_begins = led_starts is_opaque placed_opaque (λ o. DeclareTail o.0 (sort.Opaque o.1))

  abbrev pub SimpleLang : Lang Stmt
  SimpleLang = Or NewDone TypedLang

  typed_begins : (w : List Token) (x : Stmt) → TypedLang w x → Front type_starts w
  typed_begins w x (inl h) = front_less is_name type_starts (λ k f. or_left (is_name k) (is_opaque k) f) w (led_starts is_name (word_of text) NamedTail w x h)
  typed_begins w x (inr h) = front_less is_opaque type_starts (λ k f. or_right (is_name k) (is_opaque k) f) w (opaque_begins w x h)

  pub simple_begins : (w : List Token) (x : Stmt) → SimpleLang w x → Front simple_starts w
  simple_begins w x (inl h) = front_less (is_key key.New) simple_starts (λ k f. or_left (is_key key.New k) (type_starts k) f) w
      (led_starts (is_key key.New) place_of (λ at. Mapped (Closed mark.Semicolon (NewTail text at)) stmt.Do) w x h)
  simple_begins w x (inr h) = front_less type_starts simple_starts (λ k f. or_right (is_key key.New k) (type_starts k) f) w (typed_begins w x h)

  pub simple_within : (G : Kind → Bool) (d : ℕ) → ReadsWithin (simple_at text) SimpleLang G d
  unfolding simple_at
  simple_within G d = two_ways_within (is_key key.New) type_starts
      (led_starts (is_key key.New) place_of (λ at. Mapped (Closed mark.Semicolon (NewTail text at)) stmt.Do)) typed_begins type_no_new (new_done_within G d)
      (two_ways_within is_name is_opaque (led_starts is_name (word_of text) NamedTail) opaque_begins opaque_no_name (named_within G d)
      (led_within is_opaque placed_opaque (kind.Key key.Int) tt opaque_flat (λ o. declare_tail_within o.0 (sort.Opaque o.1) G d)))

  pub simple_to : (w : List Token) (x : Stmt) → SimpleLang w x → IsStmt text w x
  simple_to w x (inl h) =
      let l = h.3.1 in
      let n = new_to text (h.0 ∷ l.0) h.3.0 (h.0, l.0, h.2, l.2, refl) in
      done_to (h.0 ∷ l.0) w l.1 h.3.0 x (subst (IsAction text (h.0 ∷ l.0)) (sym n.2) (new_action n.1)) l.3 (h.4 ∙ ap (λ v. h.0 ∷ v) l.4) h.3.2
  simple_to w x (inr (inl h)) = subst (λ m. IsStmt text m x) (sym h.4) (named_to h.0 h.2 h.1 x h.3)
  simple_to w x (inr (inr h)) = subst (λ m. IsStmt text m x) (sym h.4) (declare_to h.0 (sort.Opaque (opaque_of h.0)) (opaque_type (opaque_to h.0 h.2)) h.1 x h.3)

  -- and back, rule by rule
  typed_from : (t : Token) (s : Sort) → IsType text (t ∷ []) s → (u : List Token) (f : Sort → Stmt) → ((r : Sort) → DeclareTail t.place r u (f r))
      → SimpleLang (t ∷ u) (f s)
  typed_from t s (opaque_type {o = o} h) u f tail =
      inr (inr (
        t,
        u,
        opaque_from o t h,
        subst (λ (y : Opaque). DeclareTail t.place (sort.Opaque (opaque_of t)) u (f (sort.Opaque y)))
            (sym (opaque_same o t h)) (tail (sort.Opaque (opaque_of t))),
        refl,
      ))
  typed_from t s (class_type {w = m} h) u f tail =
      inr (inl (
        t,
        u,
        name_from text t m h,
        inl (subst (DeclareTail t.place (sort.Class (word_of text t)) u)
            (ap (λ (v : Word). f (sort.Class v)) (sym h.word)) (tail (sort.Class (word_of text t)))),
        refl,
      ))

  pub declare_from : (t u k : Token) (s : Sort) (n : Word) → IsType text (t ∷ []) s → IsName text u n → IsMark mark.Semicolon k
      → SimpleLang (t ∷ u ∷ k ∷ []) (stmt.Declare t.place s n None)
  declare_from t u k s n h i j = typed_from t s h (u ∷ k ∷ []) (λ r. stmt.Declare t.place r n None)
      (λ r. (
        u,
        k ∷ [],
        name_from text u n i,
        inl (
          k,
          [],
          mark_from mark.Semicolon k j,
          (refl, ap (λ (v : Word). stmt.Declare t.place r v None) i.word),
          refl,
        ),
        refl,
      ))

  pub declare_set_from : (t u : Token) (us : List Token) (s : Sort) (n : Word) (x : Rhs) → IsType text (t ∷ []) s → IsName text u n → IsSet text us x
      → SimpleLang (t ∷ u ∷ us) (stmt.Declare t.place s n (Some x))
  declare_set_from t u us s n x h i j = typed_from t s h (u ∷ us) (λ r. stmt.Declare t.place r n (Some x))
      (λ r. (u, us, name_from text u n i, inr (x, j, ap (λ (v : Word). stmt.Declare t.place r v (Some x)) i.word), refl))

  pub assign_from : (ts : List Token) (t : Token) (n : Word) (x : Rhs) → IsName text t n → IsSet text ts x → SimpleLang (t ∷ ts) (stmt.Assign n x)
  assign_from ts t n x i j = inr (inl (t, ts, name_from text t n i, inr (inl (x, j, ap (λ (v : Word). stmt.Assign v x) i.word)), refl))

  pub act_from : (ts : List Token) (k : Token) (x : Rhs) → IsAction text ts x → IsMark mark.Semicolon k → SimpleLang (ts ++ k ∷ []) (stmt.Do x)
  act_from ts k x (component_action {x = c} h) j =
      let l = component_from text ts c h in
      inr (inl (
        l.0,
        l.1 ++ k ∷ [],
        l.2,
        inr (inr (rhs.Component c, (l.1, k, inl (c, l.3, refl), mark_from mark.Semicolon k j, refl), refl)),
        ap
            (λ m. m ++ k ∷ []) l.4,
      ))
  act_from ts k x (call_action {x = c} h) j =
      let l = call_from text ts c h in
      inr (inl (l.0, l.1 ++ k ∷ [], l.2, inr (inr (rhs.Call c, (l.1, k, inr l.3, mark_from mark.Semicolon k j, refl), refl)), ap (λ m. m ++ k ∷ []) l.4))
  act_from ts k x (new_action {x = n} h) j =
      let l = new_from text ts n h in
      inl (l.0, l.1 ++ k ∷ [], l.2, (rhs.New n, (l.1, k, l.3, mark_from mark.Semicolon k j, refl), refl), ap (λ m. m ++ k ∷ []) l.4)
