-- Reading a text is spelling its tree, and a text has one answer.
use Rattle.std.proofs.Common.{◌≡◌, ◌≢◌, ℕ, zero, suc, ◌+◌, ◌<◌, ◌≤◌, Bool, List, [], ◌∷◌, length, Ok, Err, Result, refl, sym, ◌∙◌, ap, subst, arith}
use Rattle.cv_lex.specs.Form as lex
use Rattle.cv_lex.specs.declared.fault.TextFault.{TextFault}
use Rattle.cv_lex.specs.declared.fault.TextFault.TheVariants.{NotUtf8, BadToken, Limit, Syntax, Memory}
use Rattle.easl_model.specs.declared.fault.Which.TheVariants.{Nesting}
use Rattle.easl_model.specs.{AreTokens, Shallow, StaysShallow, turned}
use Rattle.easl_model.specs.declared.place.Place.{Place}
use Rattle.easl_model.specs.declared.token.Kind.{Kind}
use Rattle.easl_model.specs.declared.token.Kind.TheVariants as kind
use Rattle.easl_model.specs.declared.token.Mark.TheVariants as mark
use Rattle.easl_model.specs.declared.token.Token.{Token}
use Rattle.easl_model.specs.declared.token.Tokens.{Tokens}
use Rattle.easl_model.proofs.Cuts.{one_list, bad_has_none, not_utf8_has_none}
use Rattle.cv_lex.proofs.Single as single
use Rattle.cv_read.specs.{Deep, FindsTree, GivesWhole, Got, IsFirstWrongAt, IsTooDeepAt, Language, Nests, OneAnswer, Stuck, done_at, placed, whole_at, ◌>>=◌}
use Rattle.cv_read.specs.Answers.{Answers}
use Rattle.cv_read.specs.Read.{Read}
use Rattle.cv_read.specs.declared.fault.ReadFault.{ReadFault}
use Rattle.cv_read.specs.declared.fault.ReadFault.TheVariants as read
use Rattle.cv_read.proofs.Depth.{Bounded}
use Rattle.cv_read.proofs.Laws.{Lang, Reads}
use Rattle.cv_read.proofs.Lefts.{place_left, shallow_not_deep, one_deep}
use Rattle.cv_read.proofs.Whole.{read_spells, spells_one, stops_first, unlike, wrong_one}

-- some depth is enough for each list of tokens
turned_most : (b : ℕ) (k : Kind) → turned b k ≤ suc b
turned_most b (kind.Mark mark.Open) = omega arith
turned_most b (kind.Mark mark.Begin) = omega arith
turned_most zero (kind.Mark mark.Close) = omega arith
turned_most (suc b) (kind.Mark mark.Close) = omega arith
turned_most zero (kind.Mark mark.End) = omega arith
turned_most (suc b) (kind.Mark mark.End) = omega arith
turned_most b k = omega arith

shallow_long : (ts : List Token) (b n : ℕ) → b + length ts ≤ n → StaysShallow n b ts
shallow_long [] b n h = tt
shallow_long (t ∷ ts) b n h = let k = turned_most b t.kind in (omega arith, shallow_long ts (turned b t.kind) n (omega arith))

-- at most one tree is spelled, if a reader goes deep enough for these tokens
pub one_spelling : {A : Type 0} (r : List Token → Read A) (S : Lang A) (G : Kind → Bool) (d : ℕ) (ts : List Token) → Reads r S G → Bounded r d
    → length ts < d → (x y : A) → S ts x → S ts y → x ≡ y
one_spelling r S G d ts law bound h x y = spells_one r S G law ts x y (λ e. bound ts 0 (length ts) e (omega arith) (omega arith) (shallow_long ts 0 (length ts) (omega arith)))

-- from the tokens to the text
moved : (text : List ℕ) (x y : Tokens) (P : Tokens → Type 0) → AreTokens text x → AreTokens text y → P y → P x
moved text x y P a b = subst P (sym (one_list text x y a b))

shallow_or_deep : (x : Tokens) (place : Place) → Shallow x.list → IsTooDeepAt x place → ⊥
shallow_or_deep x place s d = shallow_not_deep d.0 d.1 d.2 (subst Shallow d.3 s) d.4.deep

one_deep_place : (x : Tokens) (p q : Place) → IsTooDeepAt x p → IsTooDeepAt x q → p ≡ q
one_deep_place x p q a b =
    let e : length (a.1 ∷ a.2) ≡ length (b.1 ∷ b.2) = one_deep x.list (length (a.1 ∷ a.2)) (length (b.1 ∷ b.2)) (a.0, a.1, a.2, a.3, refl, a.4) (b.0, b.1, b.2, b.3, refl, b.4) in
    a.5 ∙ sym (place_left x a.0 (a.1 ∷ a.2) (length (a.1 ∷ a.2)) a.3 refl) ∙ place_left x b.0 (b.1 ∷ b.2) (length (a.1 ∷ a.2)) b.3 (sym e) ∙ sym b.5

module _ {A : Type 0} (S : Language A) where
  pub too_deep : (text : List ℕ) (end : Place) (ts : List Token) (e : ReadFault) → Nests ts (Err e) → FindsTree S text end ts (Err e)
  too_deep text end ts (read.Nesting left) h = h
  too_deep text end ts (read.Syntax left) h = absurd h
  too_deep text end ts read.Memory h = tt

  pub no_tokens : (text : List ℕ) (e : TextFault) → lex.Answers text (Err e) → Answers S text (Err e)
  no_tokens text (NotUtf8 p) h = h
  no_tokens text (BadToken p) h = h
  no_tokens text Memory h = tt
  no_tokens text (Syntax p) h = absurd h
  no_tokens text (Limit w p) h = absurd h

  pub tree_answers : (text : List ℕ) (x : Tokens) (tree : A) → lex.Answers text (Ok x) → FindsTree S text x.end x.list (Ok tree) → Answers S text (Ok tree)
  tree_answers text x tree h f = (x, h, f.0, f.1)

  pub fault_answers : (text : List ℕ) (x : Tokens) (e : ReadFault) → lex.Answers text (Ok x) → FindsTree S text x.end x.list (Err e)
      → Answers S text (Err (placed x e))
  fault_answers text x (read.Nesting left) h f = (x, h, (f.0, f.1, f.2, f.3, f.5, place_left x f.0 (f.1 ∷ f.2) left f.3 f.4))
  fault_answers text x (read.Syntax left) h f = (x, h, f.0, (f.1.0, f.1.1, f.1.2, f.1.4, place_left x f.1.0 f.1.1 left f.1.2 f.1.3))
  fault_answers text x read.Memory h f = tt

-- over a reader of the language that goes too deep only where 65 brackets stand unclosed
module _ {A : Type 0} (S : Language A) (r : List ℕ → Place → List Token → Read A) (G : Kind → Bool) (law : (text : List ℕ) (end : Place) → Reads (r text end) (S text end) G) (bound : (text : List ℕ) (end : Place) → Bounded (r text end) 65) where
  not_deep : (text : List ℕ) (end : Place) (ts : List Token) → Shallow ts → r text end ts ≡ Deep → ⊥
  not_deep text end ts s e = bound text end ts 0 64 e (omega arith) (omega arith) s

  whole_not_deep : (text : List ℕ) (end : Place) (ts : List Token) → Shallow ts → whole_at (r text end) ts ≡ Deep → ⊥
  whole_not_deep text end ts s e = by (r text end ts) refl e
    where
      by : (o : Read A) → r text end ts ≡ o → (o >>= λ x us. done_at x us) ≡ Deep → ⊥
      by (Got x []) p e = cc
      by (Got x (t ∷ us)) p e = cc
      by (Stuck k) p e = cc
      by Deep p e = not_deep text end ts s p

  -- from the reading to what the grammar says
  pub found : (text : List ℕ) (end : Place) (ts : List Token) (o : Result A ReadFault) → Shallow ts → GivesWhole o (whole_at (r text end) ts)
      → FindsTree S text end ts o
  found text end ts (Ok x) s e = (s, read_spells (r text end) (S text end) G (law text end) ts x e)
  found text end ts (Err read.Memory) s e = tt
  found text end ts (Err (read.Nesting left)) s e = absurd (whole_not_deep text end ts s e)
  found text end ts (Err (read.Syntax left)) s e = (s, stops_first (r text end) (S text end) G (law text end) ts left e)

  one_wrong_place : (text : List ℕ) (x : Tokens) (p q : Place) → IsFirstWrongAt S text x p → IsFirstWrongAt S text x q → p ≡ q
  one_wrong_place text x p q a b =
      let e : length a.1 ≡ length b.1 = wrong_one (r text x.end) (S text x.end) G (law text x.end) x.list (length a.1) (length b.1) (a.0, a.1, a.2, refl, a.3) (b.0, b.1, b.2, refl, b.3) in
      a.4 ∙ sym (place_left x a.0 a.1 (length a.1) a.2 refl) ∙ place_left x b.0 b.1 (length a.1) b.2 (sym e) ∙ sym b.4

  spelled_or_wrong : (text : List ℕ) (x : Tokens) (u : A) (place : Place) → S text x.end x.list u → IsFirstWrongAt S text x place → ⊥
  spelled_or_wrong text x u place s w = unlike (r text x.end) (S text x.end) G (law text x.end) x.list w.0 w.1 (length w.1) w.2 refl w.3.ends u s

  tree_or_fault : (text : List ℕ) (u : A) (e : TextFault) → e ≢ Memory → Answers S text (Ok u) → Answers S text (Err e) → ⊥
  tree_or_fault text u (Limit Nesting place) n a b = shallow_or_deep a.0 place a.2 (moved text a.0 b.0 (λ z. IsTooDeepAt z place) a.1 b.1 b.2)
  tree_or_fault text u (Syntax place) n a b = spelled_or_wrong text a.0 u place a.3 (moved text a.0 b.0 (λ z. IsFirstWrongAt S text z place) a.1 b.1 b.3)
  tree_or_fault text u (NotUtf8 place) n a b = not_utf8_has_none text place a.0 b a.1
  tree_or_fault text u (BadToken place) n a b = bad_has_none text place a.0 b a.1
  tree_or_fault text u Memory n a b = n refl
  tree_or_fault text u e n a b = b

  one_fault : (text : List ℕ) (e f : TextFault) → e ≢ Memory → f ≢ Memory → Answers S text (Err e) → Answers S text (Err f) → e ≡ f
  one_fault text (Limit Nesting p) (Limit Nesting q) n m a b = ap (Limit Nesting) (one_deep_place a.0 p q a.2 (moved text a.0 b.0 (λ z. IsTooDeepAt z q) a.1 b.1 b.2))
  one_fault text (Limit Nesting p) (Syntax q) n m a b = absurd (shallow_or_deep b.0 p b.2 (moved text b.0 a.0 (λ z. IsTooDeepAt z p) b.1 a.1 a.2))
  one_fault text (Limit Nesting p) (NotUtf8 q) n m a b = absurd (not_utf8_has_none text q a.0 b a.1)
  one_fault text (Limit Nesting p) (BadToken q) n m a b = absurd (bad_has_none text q a.0 b a.1)
  one_fault text (Syntax p) (Limit Nesting q) n m a b = absurd (shallow_or_deep a.0 q a.2 (moved text a.0 b.0 (λ z. IsTooDeepAt z q) a.1 b.1 b.2))
  one_fault text (Syntax p) (Syntax q) n m a b = ap Syntax (one_wrong_place text a.0 p q a.3 (moved text a.0 b.0 (λ z. IsFirstWrongAt S text z q) a.1 b.1 b.3))
  one_fault text (Syntax p) (NotUtf8 q) n m a b = absurd (not_utf8_has_none text q a.0 b a.1)
  one_fault text (Syntax p) (BadToken q) n m a b = absurd (bad_has_none text q a.0 b a.1)
  one_fault text (NotUtf8 p) (Limit Nesting q) n m a b = absurd (not_utf8_has_none text p b.0 a b.1)
  one_fault text (NotUtf8 p) (Syntax q) n m a b = absurd (not_utf8_has_none text p b.0 a b.1)
  one_fault text (BadToken p) (Limit Nesting q) n m a b = absurd (bad_has_none text p b.0 a b.1)
  one_fault text (BadToken p) (Syntax q) n m a b = absurd (bad_has_none text p b.0 a b.1)
  one_fault text (NotUtf8 p) (NotUtf8 q) n m a b = single.one_fault text (NotUtf8 p) (NotUtf8 q) n m a b
  one_fault text (NotUtf8 p) (BadToken q) n m a b = single.one_fault text (NotUtf8 p) (BadToken q) n m a b
  one_fault text (BadToken p) (NotUtf8 q) n m a b = single.one_fault text (BadToken p) (NotUtf8 q) n m a b
  one_fault text (BadToken p) (BadToken q) n m a b = single.one_fault text (BadToken p) (BadToken q) n m a b
  one_fault text Memory f n m a b = absurd (n refl)
  one_fault text (Limit Nesting p) Memory n m a b = absurd (m refl)
  one_fault text (Syntax p) Memory n m a b = absurd (m refl)
  one_fault text (NotUtf8 p) Memory n m a b = absurd (m refl)
  one_fault text (BadToken p) Memory n m a b = absurd (m refl)
  one_fault text (Limit Nesting p) f n m a b = absurd b
  one_fault text (Syntax p) f n m a b = absurd b
  one_fault text (NotUtf8 p) f n m a b = absurd b
  one_fault text (BadToken p) f n m a b = absurd b
  one_fault text e f n m a b = absurd a

  one_tree : (text : List ℕ) (x : Tokens) (u v : A) → Shallow x.list → S text x.end x.list u → S text x.end x.list v → u ≡ v
  one_tree text x u v s = spells_one (r text x.end) (S text x.end) G (law text x.end) x.list u v (not_deep text x.end x.list s)

  pub one_answer : OneAnswer S
  one_answer text (Ok u) (Ok v) p q a b = ap Ok (one_tree text a.0 u v a.2 a.3 (moved text a.0 b.0 (λ z. S text z.end z.list v) a.1 b.1 b.3))
  one_answer text (Ok u) (Err f) p q a b = absurd (tree_or_fault text u f (λ e. q (ap Err e)) a b)
  one_answer text (Err e) (Ok v) p q a b = absurd (tree_or_fault text v e (λ h. p (ap Err h)) b a)
  one_answer text (Err e) (Err f) p q a b = ap Err (one_fault text e f (λ h. p (ap Err h)) (λ h. q (ap Err h)) a b)
