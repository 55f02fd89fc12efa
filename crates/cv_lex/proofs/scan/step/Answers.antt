use Rattle.std.proofs.Common.{◌≡◌, ◌+◌, ◌-◌, ◌++◌, length, take, drop, encode_utf8_all, sym, ap, ◌∙◌, subst, arith}
use Rattle.std.proofs.lemmas.List.{take_rest}
use Rattle.easl_model.specs.{byte_len, place_after}
use Rattle.cv_lex.specs.Reading.{IsFront, token_from}
use Rattle.cv_lex.proofs.Along.{leads_piece, spot_behind}
use Rattle.cv_lex.proofs.Bytes.{front_within, sizes, rest_bytes, front_at, front_short}
use Rattle.cv_lex.proofs.scan.step.Goals as goal

pub slice_bounds-first_piece-count : goal.slice_bounds-first_piece-count
slice_bounds-first_piece-count c = omega (arith, front_within c.args.characters.now c.args.bytes.now c.args.spot.at c.requires.bytes)

pub slice_bounds-first_piece-start : goal.slice_bounds-first_piece-start
slice_bounds-first_piece-start c = omega (arith, front_within c.args.characters.now c.args.bytes.now c.args.spot.at c.requires.bytes)

pub first_piece-requires-clause-bytes : goal.first_piece-requires-clause-bytes
first_piece-requires-clause-bytes c =
    let cs = c.args.characters.now in
    let bytes = c.args.bytes.now in
    let spot = c.args.spot in
    take_rest bytes spot.offset ∙ rest_bytes cs bytes spot.at spot.offset c.requires.bytes c.requires.spot.offset ∙ ap encode_utf8_all (sym (take_rest cs spot.at))

pub behind-next-requires-clause-short : goal.behind-next-requires-clause-short
behind-next-requires-clause-short c =
    let cs = c.args.characters.now in
    omega (arith, c.requires.spot.offset, ap byte_len (take_rest cs c.args.spot.at), sizes cs c.args.bytes.now c.args.spot.at c.requires.bytes)

pub behind-next-requires-clause-at : goal.behind-next-requires-clause-at
behind-next-requires-clause-at c = omega (arith, c.requires.spot.offset, front_at c.args.characters.now c.args.spot.at c.requires.spot.within)

pub keep-requires-clause-start : goal.keep-requires-clause-start
keep-requires-clause-start c = omega (arith, c.requires.spot.offset, front_within c.args.characters.now c.args.bytes.now c.args.spot.at c.requires.bytes)

pub keep-requires-clause-end : goal.keep-requires-clause-end
keep-requires-clause-end c =
    let cs = c.args.characters.now in
    let at = c.args.spot.at in
    let rest = drop at cs in
    let size = c.in-Some.piece.length in
    let there : byte_len (take size (take (length cs - at) rest)) ≡ byte_len (take size rest) = ap (λ x. byte_len (take size x)) (take_rest cs at) in
    omega (arith, c.requires.spot.offset, c.behind-next.ensures.offset, there, sizes cs c.args.bytes.now at c.requires.bytes, front_short rest size)

front : (c : goal.In_ok-keep) → IsFront (drop c.args.spot.at c.args.characters.now) c.in-Some.piece
front c = subst (λ rest. IsFront rest c.in-Some.piece) (take_rest c.args.characters.now c.args.spot.at) c.in-Some.ensures

offset : (c : goal.In_ok-keep)
    → c.behind-next.result.offset ≡ c.args.spot.offset + byte_len (take c.in-Some.piece.length (drop c.args.spot.at c.args.characters.now))
offset c = c.behind-next.ensures.offset ∙ ap (λ rest. c.args.spot.offset + byte_len (take c.in-Some.piece.length rest)) (take_rest c.args.characters.now c.args.spot.at)

pub returns-clause-spot : goal.returns-clause-spot
returns-clause-spot c =
    let text = c.args.characters.now in
    let spot = c.args.spot in
    let piece = c.in-Some.piece in
    let next = c.behind-next in
    spot_behind text spot piece next.result.at next.result.offset c.requires.spot (front c) next.ensures.at (offset c) next.result.place
    (next.ensures.place (take spot.at text) c.requires.spot.place ∙ ap (λ rest. place_after (take spot.at text ++ take piece.length rest)) (take_rest text spot.at))

pub returns-clause-found : goal.returns-clause-found
returns-clause-found c =
    let next = c.behind-next in (
      token_from c.in-Some.piece.kind c.args.spot next.result.offset,
      c.in_ok-keep.ensures,
      leads_piece c.args.characters.now c.args.spot c.in-Some.piece next.result.at next.result.offset c.requires.spot (front c) next.ensures.at (offset c),
    )
