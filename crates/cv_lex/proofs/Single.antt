-- A text has one answer, want of memory aside.
use Rattle.std.proofs.Common.{◌≡◌, ◌≢◌, ℕ, ◌<◌, Some, None, Ok, Err, List, [], ◌++◌, length, take, chars, IsUtf8, refl, sym, ap, ◌∙◌, subst, arith}
use Rattle.std.proofs.lemmas.List.{append_cancel_left, append_cancel_right, take_all}
use Rattle.easl_model.specs.declared.place.Place.{Place}
use Rattle.easl_model.specs.declared.token.Kind.{Kind}
use Rattle.easl_model.specs.declared.token.Token.{Token}
use Rattle.easl_model.specs.declared.token.Tokens.{Tokens}
use Rattle.easl_model.specs.{CutTo, IsBadTokenAt, IsGap, IsLongest, IsNotUtf8At, IsStuckAt, NoPiece, done, gap, place_after, token}
use Rattle.easl_model.proofs.Cuts.{one_list, bad_has_none, not_utf8_has_none}
use Rattle.easl_model.proofs.Pieces.{one_longest, one_gap, apart}
use Rattle.cv_lex.specs.declared.fault.TextFault.{TextFault}
use Rattle.cv_lex.specs.declared.fault.TextFault.TheVariants.{NotUtf8, BadToken, Syntax, Limit, Memory}
use Rattle.cv_lex.specs.Form.{Answers, OneAnswer}

moved : (left before p r q s : List ℕ) (ts : List Token) → p ++ r ≡ q ++ s → q ≡ p → CutTo left (before ++ q) s ts → CutTo left (before ++ p) r ts
moved left before p r q s ts e f c =
    let rest : s ≡ r = append_cancel_left p s r (ap (λ x. x ++ s) (sym f) ∙ sym e) in
    subst (λ x. CutTo left (before ++ p) x ts) rest (subst (λ x. CutTo left (before ++ x) s ts) f c)

-- what is cut to where nothing begins goes on behind a known front
behind_gap : (left before p r cs : List ℕ) (ts : List Token) → NoPiece left → IsGap p r → CutTo left before cs ts → cs ≡ p ++ r → CutTo left (before ++ p) r ts
behind_gap left _ p r _ _ none g (done before) e = absurd (none None p r e g)
behind_gap left _ p r _ _ none g (gap before q s ts h c) e = moved left before p r q s ts (sym e) (one_gap q s p r h g e) c
behind_gap left _ p r _ _ none g (token k before q s ts l c) e = absurd (apart k q s p r l.is_token g e)

behind_token : (k : Kind) (left before p r cs : List ℕ) (ts : List Token) → NoPiece left → IsLongest k p r → CutTo left before cs ts → cs ≡ p ++ r
    → (us : List Token) × CutTo left (before ++ p) r us
behind_token k left _ p r _ _ none l (done before) e = absurd (none (Some k) p r e l)
behind_token k left _ p r _ _ none l (gap before q s ts h c) e = absurd (apart k p r q s l.is_token h (sym e))
behind_token k left _ p r _ _ none l (token j before q s ts m c) e = (ts, moved left before p r q s ts (sym e) (one_longest j k q s p r m l e) c)

-- nothing is cut where nothing begins
nothing_cut : (left before cs : List ℕ) (ts : List Token) → NoPiece cs → CutTo left before cs ts → cs ≡ left
nothing_cut left _ _ _ none (done before) = refl
nothing_cut left _ _ _ none (gap before q s ts h c) = absurd (none None q s refl h)
nothing_cut left _ _ _ none (token k before q s ts l c) = absurd (none (Some k) q s refl l)

-- the same is left
one_left : (left rest before cs : List ℕ) (ts us : List Token) → NoPiece left → NoPiece rest → CutTo left before cs ts → CutTo rest before cs us → left ≡ rest
one_left left rest _ _ _ us n o (done before) d = nothing_cut rest before left us n d
one_left left rest _ _ _ us n o (gap before q s ts h c) d =
    one_left left rest (before ++ q) s ts us n o c (behind_gap rest before q s (q ++ s) us o h d refl)
one_left left rest _ _ _ us n o (token k before q s ts l c) d =
    let w = behind_token k rest before q s (q ++ s) us o l d refl in
    one_left left rest (before ++ q) s ts w.0 n o c w.1

one_stuck : (cs : List ℕ) (p q : Place) → IsStuckAt cs p → IsStuckAt cs q → p ≡ q
one_stuck cs p q a b =
    let left : a.left ≡ b.left = one_left a.left b.left [] cs a.tokens b.tokens a.none b.none a.cut b.cut in
    let split : a.before ++ b.left ≡ b.before ++ b.left = ap (λ x. a.before ++ x) (sym left) ∙ sym a.split ∙ b.split in
    a.place ∙ ap place_after (append_cancel_right a.before b.before b.left split) ∙ sym b.place

not_shorter : (text : List ℕ) (p q : Place) (a : IsNotUtf8At text p) (b : IsNotUtf8At text q) → a.size < b.size → ⊥
not_shorter text p q a b h = a.longest b.size h (omega (arith, b.short)) b.utf8

same_size : (m n : ℕ) → (m < n → ⊥) → (n < m → ⊥) → m ≡ n
same_size m n f g = omega (arith, f, g)

one_end : (text : List ℕ) (p q : Place) → IsNotUtf8At text p → IsNotUtf8At text q → p ≡ q
one_end text p q a b =
    let size : a.size ≡ b.size = same_size a.size b.size (not_shorter text p q a b) (not_shorter text q p b a) in
    a.place ∙ ap (λ n. place_after (chars (take n text))) size ∙ sym b.place

not_both : (text : List ℕ) (p q : Place) → IsNotUtf8At text p → IsBadTokenAt text q → ⊥
not_both text p q n b = n.longest (length text) n.short (omega arith) (subst IsUtf8 (sym (take_all (length text) text (omega arith))) b.0)

pub one_fault : (text : List ℕ) (e f : TextFault) → e ≢ Memory → f ≢ Memory → Answers text (Err e) → Answers text (Err f) → e ≡ f
one_fault text (NotUtf8 p) (NotUtf8 q) n m a b = ap NotUtf8 (one_end text p q a b)
one_fault text (NotUtf8 p) (BadToken q) n m a b = absurd (not_both text p q a b)
one_fault text (BadToken p) (NotUtf8 q) n m a b = absurd (not_both text q p b a)
one_fault text (BadToken p) (BadToken q) n m a b = ap BadToken (one_stuck (chars text) p q a.1 b.1)
one_fault text Memory f n m a b = absurd (n refl)
one_fault text (Syntax p) f n m a b = absurd a
one_fault text (Limit w p) f n m a b = absurd a
one_fault text (NotUtf8 p) Memory n m a b = absurd (m refl)
one_fault text (NotUtf8 p) (Syntax q) n m a b = absurd b
one_fault text (NotUtf8 p) (Limit w q) n m a b = absurd b
one_fault text (BadToken p) Memory n m a b = absurd (m refl)
one_fault text (BadToken p) (Syntax q) n m a b = absurd b
one_fault text (BadToken p) (Limit w q) n m a b = absurd b

no_fault : (text : List ℕ) (x : Tokens) (e : TextFault) → e ≢ Memory → Answers text (Ok x) → Answers text (Err e) → ⊥
no_fault text x (NotUtf8 p) n a b = not_utf8_has_none text p x b a
no_fault text x (BadToken p) n a b = bad_has_none text p x b a
no_fault text x Memory n a b = n refl
no_fault text x (Syntax p) n a b = b
no_fault text x (Limit w p) n a b = b

pub one_answer : OneAnswer
one_answer text (Ok x) (Ok y) n m a b = ap Ok (one_list text x y a b)
one_answer text (Ok x) (Err e) n m a b = absurd (no_fault text x e (λ h. m (ap Err h)) a b)
one_answer text (Err e) (Ok x) n m a b = absurd (no_fault text x e (λ h. n (ap Err h)) b a)
one_answer text (Err e) (Err f) n m a b = ap Err (one_fault text e f (λ h. n (ap Err h)) (λ h. m (ap Err h)) a b)
