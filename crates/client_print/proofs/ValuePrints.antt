-- Calls, values and tests that are printed and read again are the same, places aside.
use Rattle.std.proofs.Common.{◌≡◌, ℕ, List, [], ◌∷◌, map, refl, sym, ap, ◌∙◌, subst}
use Rattle.client_model.specs.Grammar.{IsArg, name_arg, literal_arg, IsArgs, args, IsNew, new, IsComponent, component, IsCall, call, IsInitial, copy_initial}
use Rattle.client_model.specs.Grammar.{new_initial, component_initial, IsRhs, initial_rhs, call_rhs, IsAction, component_action, call_action, new_action}
use Rattle.client_model.specs.Grammar.{IsTest, free_test, call_test, IsGuard, guard, IsSet, set}
use Rattle.client_model.specs.declared.tree.Call.{Call}
use Rattle.client_model.specs.declared.tree.Component.{Component}
use Rattle.client_model.specs.declared.tree.New.{New}
use Rattle.client_model.specs.declared.tree.Rhs.{Rhs}
use Rattle.client_model.specs.declared.tree.Rhs.TheVariants as rhs
use Rattle.client_model.specs.declared.tree.Test.{Test}
use Rattle.client_model.specs.declared.tree.Test.TheVariants as tests
use Rattle.easl_model.specs.Lexemes.{word_of, IsMark}
use Rattle.easl_model.specs.declared.token.Key.TheVariants as keyword
use Rattle.easl_model.specs.declared.token.Mark.TheVariants as sign
use Rattle.easl_model.specs.declared.token.Token.{Token}
use Rattle.easl_model.specs.declared.tree.Word.{Word}
use Rattle.cv_layout.specs.Layout.{Lexeme, key, mark, parens, separated}
use Rattle.cv_layout.specs.Words.{named, nowhere, bare_word}
use Rattle.cv_layout.proofs.Enclosed.{enclosed}
use Rattle.cv_layout.proofs.ListPrints.{listed_print}
use Rattle.cv_layout.proofs.Printed.{AreWritten, Prints}
use Rattle.cv_layout.proofs.Single.{is_mark, is_key, is_name, is_literal_again, mark_proper, key_proper, name_proper, literal_proper, same_word}
use Rattle.cv_layout.proofs.Splits.{all_front, headed, ending}
use Rattle.client_print.specs.Bare.{bare_new, bare_component, bare_call, bare_value, bare_test}
use Rattle.client_print.specs.Lines as lines

-- what is printed as one thing is printed as another that is made of it
pub mapped : {A B C D : Type 0} {S : List ℕ → List Token → A → Type 0} {T : List ℕ → List Token → C → Type 0} {bare : A → B}
    (make : A → C) (plain : C → D) (f : B → D) → ((y : A) → plain (make y) ≡ f (bare y))
    → ((text : List ℕ) (ts : List Token) (y : A) → S text ts y → T text ts (make y))
    → (b : B) (xs : List Lexeme) → Prints S bare b xs → Prints T plain (f b) xs
mapped make plain f same rule b xs h =
    record { proper = h.proper; again = λ other us m. let r = h.again other us m in (make r.0, rule other us r.0 r.1, same r.0 ∙ ap f r.2) }

abbrev new_of : Word → List Word → New
new_of c ws = record { place = nowhere; class = c; args = ws }

abbrev component_of : Word → Word → List Word → Component
component_of r m ws = record { receiver = r; method = m; args = ws }

abbrev call_of : Word → List Word → Call
call_of p ws = record { procedure = p; args = ws }

module _ (text : List ℕ) where
  pub arg_print : (ts : List Token) (w : Word) → AreWritten text ts → IsArg text ts w → Prints IsArg bare_word (bare_word w) (lines.argument w)
  arg_print _ w a (name_arg {t = t} n) = record {
    proper = (name_proper text t w a.0 n, tt);
    again = λ other us m.
        let x = headed other us (named w) [] m in
        let v = word_of other x.0 in
        let all : us ≡ x.0 ∷ [] = x.2 ∙ ap (λ u. x.0 ∷ u) (ending other x.1 x.4) in
        (v, subst (λ u. IsArg other u v) (sym all) (name_arg (is_name text other t x.0 w a.0 n x.3)), same_word v w x.3.written);
  }
  arg_print _ w a (literal_arg {t = t} l) = record {
    proper = (literal_proper text t w a.0 l, tt);
    again = λ other us m.
        let x = headed other us (named w) [] m in
        let v = word_of other x.0 in
        let all : us ≡ x.0 ∷ [] = x.2 ∙ ap (λ u. x.0 ∷ u) (ending other x.1 x.4) in
        (v, subst (λ u. IsArg other u v) (sym all) (literal_arg (is_literal_again text other t x.0 w a.0 l x.3)), same_word v w x.3.written);
  }

  args_print : (ts : List Token) (ws : List Word) → AreWritten text ts → IsArgs text ts ws → Prints IsArgs (map bare_word) (map bare_word ws) (lines.args ws)
  args_print _ ws a (args {closing = closing} {ts = ts} o l z) =
      enclosed (mark sign.Open) sign.Close (IsMark sign.Open) (mark_proper sign.Open refl) refl (λ t o i. is_mark t sign.Open o i)
      (λ o y. y) (map bare_word) (λ c. c) (λ o y. refl) (λ t o c ts y i k j. args i k j)
      (map bare_word ws) (separated sign.Comma (map lines.argument ws))
      (listed_print IsArg bare_word lines.argument text arg_print ts ws (all_front _ ts (closing ∷ []) a.1) l)

  new_print : (ts : List Token) (x : New) → AreWritten text ts → IsNew text ts x → Prints IsNew bare_new (bare_new x) (lines.construction x)
  new_print _ _ a (new {class = class} {c = c} {ts = ts} {ws = ws} k n h) =
      let f = args_print ts ws a.1.1 h in
      record {
        proper = (key_proper keyword.New refl, (name_proper text class c a.1.0 n, f.proper));
        again = λ other us m.
            let x = headed other us (key keyword.New) (named c ∷ lines.args ws) m in
            let y = headed other x.1 (named c) (lines.args ws) x.4 in
            let r = f.again other y.1 y.4 in
            let v = word_of other y.0 in
            let made : New = record { place = x.0.place; class = v; args = r.0 } in (
              made,
              subst (λ u. IsNew other u made) (sym (x.2 ∙ ap (λ u. x.0 ∷ u) y.2))
                  (new (is_key other keyword.New x.0 x.3) (is_name text other class y.0 c a.1.0 n y.3) r.1),
              ap (λ u. new_of u (map bare_word r.0)) (same_word v c y.3.written) ∙ ap (new_of (bare_word c)) r.2,
            );
      }

  component_print : (ts : List Token) (x : Component) → AreWritten text ts → IsComponent text ts x
      → Prints IsComponent bare_component (bare_component x) (lines.component x)
  component_print _ _ a (component {receiver = receiver} {method = method} {r = r} {m = m} {ts = ts} {ws = ws} i k j h) =
      let f = args_print ts ws a.1.1.1 h in
      record {
        proper = (name_proper text receiver r a.0 i, (mark_proper sign.Dot refl, (name_proper text method m a.1.1.0 j, f.proper)));
        again = λ other us w.
            let x = headed other us (named r) (mark sign.Dot ∷ named m ∷ lines.args ws) w in
            let d = headed other x.1 (mark sign.Dot) (named m ∷ lines.args ws) x.4 in
            let y = headed other d.1 (named m) (lines.args ws) d.4 in
            let q = f.again other y.1 y.4 in
            let u = word_of other x.0 in
            let v = word_of other y.0 in
            let made : Component = record { receiver = u; method = v; args = q.0 } in (
              made,
              subst (λ l. IsComponent other l made) (sym (x.2 ∙ ap (λ l. x.0 ∷ l) (d.2 ∙ ap (λ l. d.0 ∷ l) y.2)))
                  (component (is_name text other receiver x.0 r a.0 i x.3) (is_mark other sign.Dot d.0 d.3)
                  (is_name text other method y.0 m a.1.1.0 j y.3) q.1),
              ap (λ l. component_of l (bare_word v) (map bare_word q.0)) (same_word u r x.3.written)
                  ∙ ap (λ l. component_of (bare_word r) l (map bare_word q.0)) (same_word v m y.3.written) ∙ ap (component_of (bare_word r) (bare_word m)) q.2,
            );
      }

  call_print : (ts : List Token) (x : Call) → AreWritten text ts → IsCall text ts x → Prints IsCall bare_call (bare_call x) (lines.call x)
  call_print _ _ a (call {procedure = procedure} {p = p} {ts = ts} {ws = ws} i h) =
      let f = args_print ts ws a.1 h in
      record {
        proper = (name_proper text procedure p a.0 i, f.proper);
        again = λ other us m.
            let x = headed other us (named p) (lines.args ws) m in
            let q = f.again other x.1 x.4 in
            let u = word_of other x.0 in
            let made : Call = record { procedure = u; args = q.0 } in (
              made,
              subst (λ l. IsCall other l made) (sym x.2) (call (is_name text other procedure x.0 p a.0 i x.3) q.1),
              ap (λ l. call_of l (map bare_word q.0)) (same_word u p x.3.written) ∙ ap (call_of (bare_word p)) q.2,
            );
      }

  pub initial_print : (ts : List Token) (x : Rhs) → AreWritten text ts → IsInitial text ts x → Prints IsInitial bare_value (bare_value x) (lines.value x)
  initial_print ts _ a (copy_initial {w = w} h) =
      mapped rhs.Copy bare_value rhs.Copy (λ y. refl) (λ t us y i. copy_initial i) (bare_word w) (lines.argument w) (arg_print ts w a h)
  initial_print ts _ a (new_initial {x = x} h) =
      mapped rhs.New bare_value rhs.New (λ y. refl) (λ t us y i. new_initial i) (bare_new x) (lines.construction x) (new_print ts x a h)
  initial_print ts _ a (component_initial {x = x} h) =
      mapped rhs.Component bare_value rhs.Component (λ y. refl) (λ t us y i. component_initial i) (bare_component x) (lines.component x)
      (component_print ts x a h)

  rhs_print : (ts : List Token) (x : Rhs) → AreWritten text ts → IsRhs text ts x → Prints IsRhs bare_value (bare_value x) (lines.value x)
  rhs_print ts x a (initial_rhs h) = mapped (λ y. y) bare_value (λ y. y) (λ y. refl) (λ t us y i. initial_rhs i) (bare_value x) (lines.value x)
      (initial_print ts x a h)
  rhs_print ts _ a (call_rhs {x = x} h) = mapped rhs.Call bare_value rhs.Call (λ y. refl) (λ t us y i. call_rhs i) (bare_call x) (lines.call x)
      (call_print ts x a h)

  pub action_print : (ts : List Token) (x : Rhs) → AreWritten text ts → IsAction text ts x → Prints IsAction bare_value (bare_value x) (lines.value x)
  action_print ts _ a (component_action {x = x} h) =
      mapped rhs.Component bare_value rhs.Component (λ y. refl) (λ t us y i. component_action i) (bare_component x) (lines.component x)
      (component_print ts x a h)
  action_print ts _ a (call_action {x = x} h) = mapped rhs.Call bare_value rhs.Call (λ y. refl) (λ t us y i. call_action i) (bare_call x)
      (lines.call x) (call_print ts x a h)
  action_print ts _ a (new_action {x = x} h) = mapped rhs.New bare_value rhs.New (λ y. refl) (λ t us y i. new_action i) (bare_new x)
      (lines.construction x) (new_print ts x a h)

  test_print : (ts : List Token) (x : Test) → AreWritten text ts → IsTest text ts x → Prints IsTest bare_test (bare_test x) (lines.test x)
  test_print _ _ a (free_test k) = record {
    proper = (mark_proper sign.Choice refl, tt);
    again = λ other us m.
        let x = headed other us (mark sign.Choice) [] m in
        let all : us ≡ x.0 ∷ [] = x.2 ∙ ap (λ u. x.0 ∷ u) (ending other x.1 x.4) in
        (tests.Free x.0.place, subst (λ u. IsTest other u (tests.Free x.0.place)) (sym all) (free_test (is_mark other sign.Choice x.0 x.3)), refl);
  }
  test_print ts _ a (call_test {x = x} h) =
      mapped tests.Call bare_test tests.Call (λ y. refl) (λ t us y i. call_test i) (bare_component x) (lines.component x) (component_print ts x a h)

  pub guard_print : (ts : List Token) (x : Test) → AreWritten text ts → IsGuard text ts x → Prints IsGuard bare_test (bare_test x) (parens (lines.test x))
  guard_print _ x a (guard {closing = closing} {ts = ts} k h l) =
      enclosed (mark sign.Open) sign.Close (IsMark sign.Open) (mark_proper sign.Open refl) refl (λ t o i. is_mark t sign.Open o i)
      (λ o y. y) bare_test (λ c. c) (λ o y. refl) (λ t o c ts y i k j. guard i k j) (bare_test x) (lines.test x)
      (test_print ts x (all_front _ ts (closing ∷ []) a.1) h)

  pub set_print : (ts : List Token) (x : Rhs) → AreWritten text ts → IsSet text ts x → Prints IsSet bare_value (bare_value x) (lines.set x)
  set_print _ x a (set {semicolon = semicolon} {ts = ts} k h l) =
      enclosed (mark sign.Assign) sign.Semicolon (IsMark sign.Assign) (mark_proper sign.Assign refl) refl (λ t o i. is_mark t sign.Assign o i)
      (λ o y. y) bare_value (λ c. c) (λ o y. refl) (λ t o c ts y i k j. set i k j) (bare_value x) (lines.value x)
      (rhs_print ts x (all_front _ ts (semicolon ∷ []) a.1) h)
