use Rattle.std.proofs.Common.{◌≡◌, ◌++◌, ◌∷◌, [], sym, ◌∙◌}
use Rattle.std.proofs.lemmas.List.{map_push}
use Rattle.pami_lp_text.specs.Lexeme.{word}
use Rattle.pami_lp_text.specs.Told.{told, all_told}
use Rattle.pami_lp_text.proofs.Pieces.{takes, some_left}
use Rattle.pami_lp_text.proofs.token.take_line.Goals as goal

pub loop-rest-preserved-in_ok-push : goal.loop-rest-preserved-in_ok-push
loop-rest-preserved-in_ok-push c =
    let e : all_told c.push.new.self.items ≡ all_told c.loop-rest.out.items ++ word c.split_at.result.0.now c.args.number c.loop-rest.first ∷ [] = rw c.in_ok-push.ensures.items (map_push told c.loop-rest.out.items _) in
    takes (all_told c.loop-rest.out.items) (all_told c.push.new.self.items) c.args.number c.loop-rest.first c.loop-rest.rest.now c.split_at.result.1.now c.split_at.result.0.now c.piece_length.result _ c.loop-rest.invariant (some_left c.loop-rest.rest.now c.is_empty.result c.is_empty.ensures c.loop-rest-test.true) c.piece_length.ensures.value c.split_at.ensures.front c.split_at.ensures.back (sym c.is_blank.ensures ∙ c.if-not-is_blank.true) e
