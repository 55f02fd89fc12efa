-- The readers of statics, procedures and clients read their grammar.
use Rattle.std.proofs.Common.{◌≡◌, ℕ, suc, Bool, true, false, List, [], ◌∷◌, ◌++◌, refl, sym, ◌∙◌, ap, subst, append_assoc, inl, inr}
use Rattle.easl_model.specs.Grammar.{IsType, opaque_type, class_type, IsResult, no_result, some_result, IsParams}
use Rattle.easl_model.specs.Lexemes.{word_of}
use Rattle.easl_model.specs.declared.place.Place.{Place}
use Rattle.easl_model.specs.declared.token.Key.TheVariants as key
use Rattle.easl_model.specs.declared.token.Kind.{Kind}
use Rattle.easl_model.specs.declared.token.Kind.TheVariants as kind
use Rattle.easl_model.specs.declared.token.Mark.TheVariants as mark
use Rattle.easl_model.specs.declared.token.Token.{Token}
use Rattle.easl_model.specs.declared.tree.Opaque.{Opaque}
use Rattle.easl_model.specs.declared.tree.Param.{Param}
use Rattle.easl_model.specs.declared.tree.Sort.{Sort}
use Rattle.easl_model.specs.declared.tree.Sort.TheVariants as sort
use Rattle.easl_model.specs.declared.tree.Word.{Word}
use Rattle.client_model.specs.Grammar.{IsInitial, IsStmts, IsStatic, static, IsProc, procedure, IsItems, no_items, next_static, next_procedure, IsClient, client}
use Rattle.client_model.specs.declared.tree.Client.{Client}
use Rattle.client_model.specs.declared.tree.Proc.{Proc}
use Rattle.client_model.specs.declared.tree.Rhs.{Rhs}
use Rattle.client_model.specs.declared.tree.Static.{Static}
use Rattle.client_model.specs.declared.tree.Stmt.{Stmt}
use Rattle.cv_read.specs.Read.{is_mark, is_key, is_name, nothing_of, place_of}
use Rattle.cv_read.specs.Types.{is_opaque, opaque_of, placed_opaque, type_starts}
use Rattle.cv_read.proofs.Laws.{Lang, none, either, Front, Apart, Then, Mapped, One, Or, End, no_none, avoids_none, front_avoids, front_less}
use Rattle.cv_read.proofs.Levels.{mark_flat, key_flat, name_flat, begin_opens, end_closes}
use Rattle.cv_read.proofs.Repeats.{Star, or_left, or_right}
use Rattle.cv_read.proofs.Tested.{mark_to, mark_from, key_to, key_from, name_to, name_from}
use Rattle.cv_read.proofs.TypeLaws.{opaque_flat, opaque_from, opaque_same, opaque_to, type_within, params_within}
use Rattle.cv_read.proofs.Within.{ReadsWithin, got_within, mapped_within, respell_within, both_within, closed_within, led_within, opened_within, both_closes}
use Rattle.cv_read.proofs.Within.{mapped_closes, take_closes, two_ways_within, repeated_within}
use Rattle.cv_read.proofs.Words.{Led, Closed, led_starts}
use Rattle.client_parser.specs.Reading.{initialised_at, static_behind, static_at, result_at, proc_at, item_at, item_starts, proc_starts, with_item}
use Rattle.client_parser.specs.Reading.{with_items, empty_client, gathered_at, client_at}
use Rattle.client_parser.specs.declared.items.Item.{Item}
use Rattle.client_parser.specs.declared.items.Item.TheVariants as item
use Rattle.client_parser.proofs.StmtLaws.{StmtsGo, stmts_within}
use Rattle.client_parser.proofs.ValueLaws.{initial_within}

name_no_opaque : Apart is_name is_opaque
name_no_opaque kind.Name f g = g
name_no_opaque k f g = f

type_no_void : Apart type_starts (is_key key.Void)
type_no_void (kind.Key key.Void) f g = f
type_no_void k f g = g

end_no_stmt : Apart (is_mark mark.End) StmtsGo
end_no_stmt (kind.Mark mark.End) f g = g
end_no_stmt k f g = f

proc_no_static : Apart proc_starts (is_key key.Static)
proc_no_static (kind.Key key.Static) f g = f
proc_no_static k f g = g

abbrev pub ClientGoes : Kind → Bool
ClientGoes = either none item_starts

abbrev static_of : Place → Sort → Word → Rhs → Static
static_of at s n x = record { place = at; sort = s; name = n; value = x }

abbrev proc_of : Place × Sort → Word → List Param → List Stmt → Place → Proc
proc_of r n ps xs e = record { place = r.0; result = r.1; name = n; params = ps; body = xs; end = e }

-- a closing brace with its place
abbrev Brace : Lang Place
Brace = One (is_mark mark.End) place_of

-- what items put into a client
abbrev statics_in : List Item → List Static
statics_in [] = []
statics_in (item.Static x ∷ xs) = x ∷ statics_in xs
statics_in (item.Procedure x ∷ xs) = statics_in xs

abbrev procedures_in : List Item → List Proc
procedures_in [] = []
procedures_in (item.Static x ∷ xs) = procedures_in xs
procedures_in (item.Procedure x ∷ xs) = x ∷ procedures_in xs

abbrev order_in : List Item → List Bool
order_in [] = []
order_in (item.Static x ∷ xs) = true ∷ order_in xs
order_in (item.Procedure x ∷ xs) = false ∷ order_in xs

abbrev joined : Client → List Item → Client
joined c xs = record { statics = c.statics ++ statics_in xs; procedures = c.procedures ++ procedures_in xs; order = c.order ++ order_in xs; end = c.end }

nil_right : {A : Type 0} (xs : List A) → xs ≡ xs ++ []
nil_right [] = refl
nil_right (x ∷ xs) = ap (λ ys. x ∷ ys) (nil_right xs)

all_gathered : (c : Client) (xs : List Item) → with_items c xs ≡ joined c xs
all_gathered c [] = λ i. record { statics = nil_right c.statics i; procedures = nil_right c.procedures i; order = nil_right c.order i; end = c.end }
all_gathered c (item.Static x ∷ xs) =
    all_gathered (with_item c (item.Static x)) xs
    ∙ (λ i. record {
      statics = append_assoc c.statics (x ∷ []) (statics_in xs) i;
      procedures = c.procedures ++ procedures_in xs;
      order =
          append_assoc c.order (true ∷ []) (order_in xs) i;
      end = c.end;
    })
all_gathered c (item.Procedure x ∷ xs) =
    all_gathered (with_item c (item.Procedure x)) xs
    ∙ (λ i. record {
      statics = c.statics ++ statics_in xs;
      procedures = append_assoc c.procedures (x ∷ []) (procedures_in xs) i;
      order =
          append_assoc c.order (false ∷ []) (order_in xs) i;
      end = c.end;
    })

module _ (text : List ℕ) where
  -- statics
  abbrev InitialisedLang : Lang Rhs
  InitialisedLang = Led (is_mark mark.Assign) nothing_of (λ _. Closed mark.Semicolon (IsInitial text))

  abbrev StaticTail : Place → Lang Static
  StaticTail at = Then (IsType text) (λ s. Led is_name (word_of text) (λ n. Mapped InitialisedLang (λ x. static_of at s n x)))

  abbrev StaticLang : Lang Static
  StaticLang = Led (is_key key.Static) place_of StaticTail

  static_to : (w : List Token) (x : Static) → StaticLang w x → IsStatic text w x
  static_to w x h =
      let g = h.3 in
      let n = g.4 in
      let m = n.3 in
      let a = m.1 in
      let c = a.3 in
      let e : w ≡ h.0 ∷ (g.1 ++ (n.0 ∷ (a.0 ∷ (c.0 ++ c.1 ∷ [])))) = h.4
      ∙ ap (λ u. h.0 ∷ u) (g.5 ∙ ap (λ u. g.1 ++ u) (n.4 ∙ ap (λ u. n.0 ∷ u) (a.4 ∙ ap (λ u. a.0 ∷ u) c.4))) in
      subst (IsStatic text w) (sym m.2) (subst (λ v. IsStatic text v (static_of h.0.place g.0 (word_of text n.0) m.0)) (sym e)
      (static (key_to key.Static h.0 h.2) g.3 (name_to text n.0 (word_of text n.0) n.2 refl) (mark_to mark.Assign a.0 a.2) c.2 (mark_to mark.Semicolon c.1 c.3)))

  static_from : (w : List Token) (x : Static) → IsStatic text w x → StaticLang w x
  static_from w x (static {keyword = t} {name = u} {assign = a} {semicolon = k} {n = n} {ts = ts} {us = us} {s = s} {x = y} i h j l v q) =
      let e : static_of t.place s n y ≡ static_of t.place s (word_of text u) y = ap (λ (m : Word). static_of t.place s m y) j.word in (
        t,
        ts ++ (u ∷ (a ∷ (us ++ k ∷ []))),
        key_from key.Static t i,
        (
          s,
          ts,
          u ∷ (a ∷ (us ++ k ∷ [])),
          h,
          (
            u,
            a ∷ (us ++ k ∷ []),
            name_from text u n j,
            (y, (a, us ++ k ∷ [], mark_from mark.Assign a l, (us, k, v, mark_from mark.Semicolon k q, refl), refl), e),
            refl,
          ),
          refl,
        ),
        refl,
      )

  static_within : (d : ℕ) → ReadsWithin (static_at text) (IsStatic text) none d
  unfolding static_behind initialised_at
  static_within d = respell_within static_to static_from
      (led_within (is_key key.Static) place_of (kind.Key key.Static) tt (key_flat key.Static)
      (λ at. both_within (type_within text d)
      (λ s. led_within is_name (word_of text) kind.Name tt name_flat
      (λ n. mapped_within (λ x. static_of at s n x)
      (led_within (is_mark mark.Assign) nothing_of (kind.Mark mark.Assign) tt (mark_flat mark.Assign (λ b. refl))
      (λ _. closed_within mark.Semicolon none (mark_flat mark.Semicolon (λ b. refl)) (λ g. g) (initial_within text d)))))
      (λ s w k z h a. avoids_none (w ++ k))))

  static_begins : (w : List Token) (x : Static) → IsStatic text w x → Front (is_key key.Static) w
  static_begins w x (static {keyword = t} i h j l v q) = key_from key.Static t i

  -- results with the places of their tokens
  abbrev IsPlaced : Lang (Place × Sort)
  IsPlaced w r = (t : Token) × (w ≡ t ∷ []) × IsResult text (t ∷ []) r.1 × (r.0 ≡ t.place)

  abbrev VoidLang : Lang (Place × Sort)
  VoidLang = Led (is_key key.Void) place_of (λ at. End (at, sort.Void))

  abbrev OpaqueLang : Lang (Place × Sort)
  OpaqueLang = Led is_opaque placed_opaque (λ o. End (o.0, sort.Opaque o.1))

  abbrev ClassLang : Lang (Place × Sort)
  ClassLang = Led is_name (word_of text) (λ w. End (w.place, sort.Class w))

  abbrev SomeLang : Lang (Place × Sort)
  SomeLang = Or OpaqueLang ClassLang

  abbrev ResultLang : Lang (Place × Sort)
  ResultLang = Or VoidLang SomeLang

  placed : (t : Token) (s : Sort) → IsResult text (t ∷ []) s → (u w : List Token) (r : Place × Sort) → u ≡ [] → w ≡ t ∷ u → r ≡ (t.place, s) → IsPlaced w r
  placed t s is u w r none e f =
      let alone : w ≡ t ∷ [] = e ∙ ap (λ v. t ∷ v) none in
      (t, alone, subst (IsResult text (t ∷ [])) (sym (ap (λ (q : Place × Sort). q.1) f)) is, ap (λ (q : Place × Sort). q.0) f)

  result_to : (w : List Token) (r : Place × Sort) → ResultLang w r → IsPlaced w r
  result_to w r (inl h) = placed h.0 sort.Void (no_result (key_to key.Void h.0 h.2)) h.1 w r h.3.0 h.4 h.3.1
  result_to w r (inr (inl h)) = placed h.0 (sort.Opaque (opaque_of h.0)) (some_result (opaque_type (opaque_to h.0 h.2))) h.1 w r h.3.0 h.4 h.3.1
  result_to w r (inr (inr h)) = placed h.0 (sort.Class (word_of text h.0)) (some_result (class_type (name_to text h.0 (word_of text h.0) h.2 refl))) h.1 w r
      h.3.0 h.4 h.3.1

  result_from : (w : List Token) (r : Place × Sort) → IsPlaced w r → ResultLang w r
  result_from w r h = subst (λ u. ResultLang u r) (sym h.1) (subst (λ at. ResultLang (h.0 ∷ []) (at, r.1)) (sym h.3) (by h.0 r.1 h.2))
    where
      by : (t : Token) (s : Sort) → IsResult text (t ∷ []) s → ResultLang (t ∷ []) (t.place, s)
      by t s (no_result h) = inl (t, [], key_from key.Void t h, (refl, refl), refl)
      by t s (some_result (opaque_type {o = o} h)) =
          inr (inl (t, [], opaque_from o t h, (refl, ap (λ (y : Opaque). (t.place, sort.Opaque y)) (opaque_same o t h)), refl))
      by t s (some_result (class_type {w = n} h)) = inr (inr (t, [], name_from text t n h, (refl, ap (λ (v : Word). (t.place, sort.Class v)) h.word), refl))

  void_begins : (w : List Token) (r : Place × Sort) → VoidLang w r → Front (is_key key.Void) w
  void_begins = led_starts (is_key key.Void) place_of (λ at. End (at, sort.Void))

  opaque_begins : (w : List Token) (r : Place × Sort) → OpaqueLang w r → Front is_opaque w
  opaque_begins = led_starts is_opaque placed_opaque (λ o. End (o.0, sort.Opaque o.1))

  class_begins : (w : List Token) (r : Place × Sort) → ClassLang w r → Front is_name w
  class_begins = led_starts is_name (word_of text) (λ w. End (w.place, sort.Class w))

  some_begins : (w : List Token) (r : Place × Sort) → SomeLang w r → Front type_starts w
  some_begins w r (inl h) = front_less is_opaque type_starts (λ k f. or_right (is_name k) (is_opaque k) f) w (opaque_begins w r h)
  some_begins w r (inr h) = front_less is_name type_starts (λ k f. or_left (is_name k) (is_opaque k) f) w (class_begins w r h)

  result_within : (d : ℕ) → ReadsWithin (result_at text) IsPlaced none d
  result_within d = respell_within result_to result_from
      (two_ways_within (is_key key.Void) type_starts void_begins some_begins type_no_void
      (led_within (is_key key.Void) place_of (kind.Key key.Void) tt (key_flat key.Void) (λ at. got_within (at, sort.Void) none d))
      (two_ways_within is_opaque is_name opaque_begins class_begins name_no_opaque
      (led_within is_opaque placed_opaque (kind.Key key.Int) tt opaque_flat (λ o. got_within (o.0, sort.Opaque o.1) none d))
      (led_within is_name (word_of text) kind.Name tt name_flat (λ w. got_within (w.place, sort.Class w) none d))))

  result_begins : (w : List Token) (r : Place × Sort) → IsPlaced w r → Front proc_starts w
  result_begins w r h = by w r (result_from w r h)
    where
      by : (w : List Token) (r : Place × Sort) → ResultLang w r → Front proc_starts w
      by w r (inl l) = front_less (is_key key.Void) proc_starts (λ k f. or_left (is_key key.Void k) (type_starts k) f) w (void_begins w r l)
      by w r (inr l) = front_less type_starts proc_starts (λ k f. or_right (is_key key.Void k) (type_starts k) f) w (some_begins w r l)

  -- procedures
  abbrev BodyTail : (List Stmt → Place → Proc) → Lang Proc
  BodyTail g = Then (IsStmts text) (λ xs. Mapped Brace (g xs))

  abbrev ProcLang : Lang Proc
  ProcLang = Then IsPlaced (λ r. Led is_name (word_of text) (λ n. Then (IsParams text) (λ ps. Led (is_mark mark.Begin) nothing_of (λ _. BodyTail (proc_of r n ps)))))

  brace_begins : (g : Place → Proc) (w : List Token) (z : Proc) → Mapped Brace g w z → Front (is_mark mark.End) w
  brace_begins g w z h = subst (Front (is_mark mark.End)) (sym h.1.1) h.1.2

  proc_to : (w : List Token) (z : Proc) → ProcLang w z → IsProc text w z
  proc_to w z h =
      let q = h.3 in
      let n = h.4 in
      let p = n.3 in
      let b = p.4 in
      let s = b.3 in
      let c = s.4.1 in
      let m = word_of text n.0 in
      let e : w ≡ q.0 ∷ n.0 ∷ (p.1 ++ (b.0 ∷ (s.1 ++ c.0 ∷ []))) =
      h.5 ∙ ap (λ u. u ++ h.2) q.1 ∙ ap (λ u. q.0 ∷ u) (n.4
      ∙ ap (λ u. n.0 ∷ u) (p.5 ∙ ap (λ u. p.1 ++ u) (b.4 ∙ ap (λ u. b.0 ∷ u) (s.5 ∙ ap (λ u. s.1 ++ u) c.1)))) in
      let f : z ≡ proc_of (q.0.place, h.0.1) m p.0 s.0 c.0.place = s.4.2 ∙ ap (proc_of h.0 m p.0 s.0) c.3 ∙ ap (λ at. proc_of (at, h.0.1) m p.0 s.0 c.0.place) q.3 in
      subst (IsProc text w) (sym f) (subst (λ u. IsProc text u (proc_of (q.0.place, h.0.1) m p.0 s.0 c.0.place)) (sym e)
      (procedure q.2 (name_to text n.0 m n.2 refl) p.3 (mark_to mark.Begin b.0 b.2) s.3 (mark_to mark.End c.0 c.2)))

  proc_from : (w : List Token) (z : Proc) → IsProc text w z → ProcLang w z
  proc_from w z (procedure {result = q} {name = t} {begin = b} {end = c} {n = n} {ts = ts} {us = us} {r = r} {ps = ps} {xs = xs} h i f j k l) =
      let e : proc_of (q.place, r) n ps xs c.place ≡ proc_of (q.place, r) (word_of text t) ps xs c.place =
      ap (λ (m : Word). proc_of (q.place, r) m ps xs c.place) i.word in (
        (q.place, r),
        q ∷ [],
        t ∷ (ts ++ (b ∷ (us ++ c ∷ []))),
        (q, refl, h, refl),
        (
          t,
          ts ++ (b ∷ (us ++ c ∷ [])),
          name_from text t n i,
          (
            ps,
            ts,
            b ∷ (us ++ c ∷ []),
            f,
            (b, us ++ c ∷ [], mark_from mark.Begin b j, (xs, us, c ∷ [], k, (c.place, (c, refl, mark_from mark.End c l, refl), e), refl), refl),
            refl,
          ),
          refl,
        ),
        refl,
      )

  proc_within : (d : ℕ) → ReadsWithin (proc_at text d) (IsProc text) none (suc d)
  unfolding proc_at
  proc_within d = respell_within proc_to proc_from
      (both_within (result_within (suc d))
      (λ r. led_within is_name (word_of text) kind.Name tt name_flat
      (λ n. both_within (params_within text none d)
      (λ ps. opened_within (is_mark mark.Begin) nothing_of (kind.Mark mark.Begin) tt begin_opens
      (λ _. both_closes (stmts_within text d)
      (λ xs. mapped_closes (proc_of r n ps xs) (take_closes (is_mark mark.End) place_of none d (kind.Mark mark.End) tt end_closes))
      (λ xs w k z h a. front_avoids (is_mark mark.End) StmtsGo end_no_stmt w k (brace_begins (proc_of r n ps xs) w z h))))
      (λ ps w k z h a. avoids_none (w ++ k))))
      (λ r w k z h a. avoids_none (w ++ k)))

  proc_begins : (w : List Token) (z : Proc) → IsProc text w z → Front proc_starts w
  proc_begins w z (procedure {result = q} {r = r} h i f j k l) = result_begins (q ∷ []) (q.place, r) (q, refl, h, refl)

  -- items
  abbrev ItemLang : Lang Item
  ItemLang = Or (Mapped (IsStatic text) item.Static) (Mapped (IsProc text) item.Procedure)

  item_within : (d : ℕ) → ReadsWithin (item_at text d) ItemLang none (suc d)
  item_within d = two_ways_within (is_key key.Static) proc_starts (λ w x h. static_begins w h.0 h.1) (λ w x h. proc_begins w h.0 h.1) proc_no_static
      (mapped_within item.Static (static_within (suc d)))
      (mapped_within item.Procedure (proc_within d))

  item_begins : (w : List Token) (x : Item) → ItemLang w x → Front item_starts w
  item_begins w x (inl h) = front_less (is_key key.Static) item_starts (λ k f. or_left (is_key key.Static k) (proc_starts k) f) w (static_begins w h.0 h.1)
  item_begins w x (inr h) = front_less proc_starts item_starts (λ k f. or_right (is_key key.Static k) (proc_starts k) f) w (proc_begins w h.0 h.1)

  items_to : (w : List Token) (xs : List Item) → Star ItemLang w xs → IsItems text w (statics_in xs) (procedures_in xs) (order_in xs)
  items_to w [] h = subst (λ m. IsItems text m [] [] []) (sym h) no_items
  items_to w (x ∷ xs) h = subst (λ m. IsItems text m (statics_in (x ∷ xs)) (procedures_in (x ∷ xs)) (order_in (x ∷ xs))) (sym h.4) (by h.2 (items_to h.1 xs h.3))
    where
      by : ItemLang h.0 x → IsItems text h.1 (statics_in xs) (procedures_in xs) (order_in xs)
          → IsItems text (h.0 ++ h.1) (statics_in (x ∷ xs)) (procedures_in (x ∷ xs)) (order_in (x ∷ xs))
      by (inl l) more = subst (λ (y : Item). IsItems text (h.0 ++ h.1) (statics_in (y ∷ xs)) (procedures_in (y ∷ xs)) (order_in (y ∷ xs))) (sym l.2)
          (next_static l.1 more)
      by (inr l) more = subst (λ (y : Item). IsItems text (h.0 ++ h.1) (statics_in (y ∷ xs)) (procedures_in (y ∷ xs)) (order_in (y ∷ xs))) (sym l.2)
          (next_procedure l.1 more)

  items_from : (w : List Token) (xs : List Static) (ys : List Proc) (order : List Bool) → IsItems text w xs ys order → (is : List Item) × Star ItemLang w is
      × (xs ≡ statics_in is) × (ys ≡ procedures_in is) × (order ≡ order_in is)
  items_from w xs ys order no_items = ([], refl, refl, refl, refl)
  items_from w xs ys order (next_static {ts = ts} {us = us} {x = x} {xs = zs} {ys = vs} {order = o} h more) =
      let a = items_from us zs vs o more in (item.Static x ∷ a.0, (ts, us, inl (x, h, refl), a.1, refl), ap (λ m. x ∷ m) a.2, a.3, ap (λ m. true ∷ m) a.4)
  items_from w xs ys order (next_procedure {ts = ts} {us = us} {y = y} {xs = zs} {ys = vs} {order = o} h more) =
      let a = items_from us zs vs o more in (item.Procedure y ∷ a.0, (ts, us, inr (y, h, refl), a.1, refl), a.2, ap (λ m. y ∷ m) a.3, ap (λ m. false ∷ m) a.4)

  -- clients
  abbrev ClientLang : Place → Lang Client
  ClientLang end = Mapped (Star ItemLang) (with_items (empty_client end))

  client_to : (end : Place) (w : List Token) (z : Client) → ClientLang end w z → IsClient text end w z
  client_to end w z h = subst (IsClient text end w) (sym (h.2 ∙ all_gathered (empty_client end) h.0)) (client (items_to w h.0 h.1))

  client_from : (end : Place) (w : List Token) (z : Client) → IsClient text end w z → ClientLang end w z
  client_from end w z (client {xs = xs} {ys = ys} {order = order} h) =
      let a = items_from w xs ys order h in
      let e : ◌≡◌ {A = Client} (record { statics = xs; procedures = ys; order = order; end = end }) (joined (empty_client end) a.0) =
      λ i. record { statics = a.2 i; procedures = a.3 i; order = a.4 i; end = end } in
      (a.0, a.1, e ∙ sym (all_gathered (empty_client end) a.0))

  pub client_within : (d : ℕ) (end : Place) → ReadsWithin (client_at text d end) (IsClient text end) ClientGoes (suc d)
  unfolding gathered_at
  client_within d end = respell_within (client_to end) (client_from end)
      (mapped_within (with_items (empty_client end)) (repeated_within item_starts item_begins (no_none item_starts) (item_within d)))
