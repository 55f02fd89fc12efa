-- How the reading goes along a text, piece by piece.
use Rattle.std.proofs.Common.{◌≡◌, ℕ, ◌+◌, get_or, length-drop, ◌<◌, ◌≤◌, Option, Some, None, Result, Ok, Err, IfOk, List, [], ◌∷◌, ◌++◌, length, take, drop, All, IsUtf8, chars, encode_utf8_all, sym, ap, ◌∙◌, subst, arith, append_assoc, append-nil, take-append-drop}
use Rattle.std.proofs.lemmas.List.{drop-drop, drop_all, take_all, take_more}
use Rattle.std.proofs.lemmas.Str.{encodes-chars}
use Rattle.easl_model.specs.declared.place.Place.{Place}
use Rattle.easl_model.specs.declared.token.Kind.{Kind}
use Rattle.easl_model.specs.declared.token.Token.{Token}
use Rattle.easl_model.specs.declared.token.Tokens.{Tokens}
use Rattle.easl_model.specs.{Cut, CutTo, IsPart, IsPiece, IsStuckAt, NoPiece, byte_len, done, gap, place_after, token, token_at}
use Rattle.easl_model.proofs.Cuts.{byte_len-append, parts}
use Rattle.cv_lex.specs.declared.piece.Piece.{Piece}
use Rattle.cv_lex.specs.declared.spot.Spot.{Spot}
use Rattle.cv_lex.specs.declared.fault.TextFault.{TextFault}
use Rattle.cv_lex.specs.declared.fault.TextFault.TheVariants.{NotUtf8, BadToken, Syntax, Limit, Memory}
use Rattle.cv_lex.specs.Form.{Answers}
use Rattle.cv_lex.specs.Reading.{IsFront, IsSpot, token_from, Leads, RefusesStep, CutAnswers, RefusesBytes}
use Rattle.cv_lex.proofs.Lists.{take_add}

pub leads_more : (cs : List ℕ) (a b c : ℕ) (xs ys : List Token) → Leads cs a xs b → Leads cs b ys c → Leads cs a (xs ++ ys) c
leads_more cs a b c xs ys f g = λ left ts cut. subst (CutTo left (take a cs) (drop a cs)) (sym (append_assoc xs ys ts)) (f left (ys ++ ts) (g left ts cut))

same_token : (k : Kind) (a b c d : ℕ) (p q : Place) → a ≡ b → c ≡ d → p ≡ q
    → (let T : Token = record { kind = k; start = a; end = c; place = p } in T) ≡ record { kind = k; start = b; end = d; place = q }
same_token k a b c d p q e f g =
    let with_start : ℕ → Token = λ x. record { kind = k; start = x; end = c; place = p } in
    let with_end : ℕ → Token = λ x. record { kind = k; start = b; end = x; place = p } in
    let with_place : Place → Token = λ x. record { kind = k; start = b; end = d; place = x } in
    ap with_start e ∙ ap with_end f ∙ ap with_place g

module _ (text : List ℕ) (spot : Spot) (p : Piece) (next offset : ℕ) (s : IsSpot text spot) (f : IsFront (drop spot.at text) p) (e : next ≡ spot.at + p.length) (o : offset ≡ spot.offset + byte_len (take p.length (drop spot.at text))) where
  abbrev before : List ℕ
  before = take spot.at text

  abbrev used : List ℕ
  used = take p.length (drop spot.at text)

  abbrev rest : List ℕ
  rest = drop p.length (drop spot.at text)

  all_before : take next text ≡ before ++ used
  all_before = ap (λ n. take n text) e ∙ take_add spot.at p.length text

  all_behind : drop next text ≡ rest
  all_behind = ap (λ n. drop n text) e ∙ sym (drop-drop p.length spot.at text)

  joined : used ++ rest ≡ drop spot.at text
  joined = take-append-drop p.length (drop spot.at text)

  next_within : next ≤ length text
  next_within = omega (arith, f.within, length-drop spot.at text, s.within)

  offset_there : byte_len (before ++ used) ≡ offset
  offset_there = byte_len-append before used ∙ ap (λ n. n + byte_len used) (sym s.offset) ∙ sym o

  moved_to : (left : List ℕ) (ts : List Token) → CutTo left (take next text) (drop next text) ts → CutTo left (before ++ used) rest ts
  moved_to left ts c = subst (λ x. CutTo left (before ++ used) x ts) all_behind (subst (λ x. CutTo left x (drop next text) ts) all_before c)

  token_same : (k : Kind) → token_at before k used ≡ record { kind = k; start = spot.offset; end = offset; place = spot.place }
  token_same k = same_token k _ _ _ _ _ _ (sym s.offset) offset_there (sym s.place)

  leads_by : (k : Option Kind) → IsPiece k used rest → Leads text spot.at (token_from k spot offset) next
  leads_by None g = λ left ts c. subst (λ x. CutTo left before x ts) joined (gap before used rest ts g (moved_to left ts c))
  leads_by (Some k) l = λ left ts c.
      subst (λ t. CutTo left before (drop spot.at text) (t ∷ ts)) (token_same k) (subst (λ x. CutTo left before x (token_at before k used ∷ ts)) joined (token k before used rest ts l (moved_to left ts c)))

  pub leads_piece : Leads text spot.at (token_from p.kind spot offset) next
  leads_piece = leads_by p.kind f.piece

  pub spot_behind : (place : Place) → place ≡ place_after (before ++ used) → IsSpot text (record { at = next; offset = offset; place = place })
  spot_behind place g = record {
    within = next_within;
    offset = sym offset_there ∙ ap byte_len (sym all_before);
    place = g ∙ ap place_after (sym all_before);
  }

pub whole : (cs : List ℕ) (list : List Token) (spot : Spot) → IsSpot cs spot → Leads cs 0 list spot.at → length cs ≤ spot.at
    → Cut [] cs list × (spot.place ≡ place_after cs)
whole cs list spot s l e =
    let end : CutTo [] (take spot.at cs) (drop spot.at cs) [] = subst (λ x. CutTo [] (take spot.at cs) x []) (sym (drop_all spot.at cs e)) (done (take spot.at cs)) in
    (subst (Cut [] cs) (append-nil list) (l [] [] end), s.place ∙ ap place_after (take_all spot.at cs e))

stuck : (cs : List ℕ) (list : List Token) (spot : Spot) (place : Place) → IsSpot cs spot → Leads cs 0 list spot.at → spot.at < length cs
    → NoPiece (drop spot.at cs) → place ≡ spot.place → IsStuckAt cs place
stuck cs list spot place s l more none e = record {
  before = take spot.at cs;
  left = drop spot.at cs;
  tokens = list;
  split = sym (take-append-drop spot.at cs);
  cut = subst (CutTo (drop spot.at cs) [] cs) (append-nil list) (l (drop spot.at cs) [] (done (take spot.at cs)));
  some = λ g. absurd (omega (arith, ap length g, length-drop spot.at cs));
  none = none;
  place = e ∙ s.place;
}

pub refused : (cs : List ℕ) (list : List Token) (spot : Spot) (e : TextFault) → IsSpot cs spot → Leads cs 0 list spot.at → spot.at < length cs
    → RefusesStep e (drop spot.at cs) spot.place → CutAnswers cs (Err e)
refused cs list spot (BadToken p) s l more r = stuck cs list spot p s l more r.1 r.0
refused cs list spot Memory s l more r = tt
refused cs list spot (NotUtf8 p) s l more r = r
refused cs list spot (Syntax p) s l more r = r
refused cs list spot (Limit w p) s l more r = r

-- one more character further
pub further : (cs : List ℕ) (i character : ℕ) (start place next : Place) → i < length cs → character ≡ get_or cs i character
    → ((b : List ℕ) → start ≡ place_after b → place ≡ place_after (b ++ take i cs))
    → ((b : List ℕ) → place ≡ place_after b → next ≡ place_after (b ++ character ∷ [])) → (b : List ℕ) → start ≡ place_after b
    → next ≡ place_after (b ++ take (i + 1) cs)
further cs i character start place next h there so_far step b e =
    step (b ++ take i cs) (so_far b e) ∙ ap place_after (append_assoc b (take i cs) (character ∷ []) ∙ ap (λ x. b ++ x) (ap (λ x. take i cs ++ x ∷ []) there ∙ sym (take_more cs i character h)))

pub answers_bytes : (text cs : List ℕ) → IsUtf8 text → cs ≡ chars text → text ≡ encode_utf8_all cs
answers_bytes text cs u e = sym (ap encode_utf8_all e ∙ encodes-chars text u)

pub no_bytes : (text : List ℕ) (e : TextFault) → RefusesBytes text e → Answers text (Err e)
no_bytes text (NotUtf8 p) r = r
no_bytes text Memory r = tt
no_bytes text (BadToken p) r = absurd r
no_bytes text (Syntax p) r = absurd r
no_bytes text (Limit w p) r = absurd r

pub answers : (text cs : List ℕ) (r : Result Tokens TextFault) → IsUtf8 text → cs ≡ chars text → CutAnswers cs r → Answers text r
answers text cs (Ok x) u e a = record { utf8 = u; cut = subst (λ m. Cut [] m x.list) e a.0; end = a.1 ∙ ap place_after e }
answers text cs (Err (BadToken p)) u e a = (u, subst (λ m. IsStuckAt m p) e a)
answers text cs (Err Memory) u e a = tt
answers text cs (Err (NotUtf8 p)) u e a = absurd a
answers text cs (Err (Syntax p)) u e a = absurd a
answers text cs (Err (Limit w p)) u e a = absurd a

pub answers_parts : (text : List ℕ) (r : Result Tokens TextFault) → Answers text r → IfOk r (λ x. All (IsPart text) x.list)
answers_parts text (Ok x) a = parts text x a
answers_parts text (Err e) a = tt
