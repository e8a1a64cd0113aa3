use Rattle.std.proofs.Common.{arith, ◌≡◌, ◌<◌, ◌≤◌, ◌+◌, ◌++◌, ℕ, suc, List, [], ◌∷◌, get_or, length, take, sym, ap, ◌∙◌, subst}
use Rattle.std.proofs.Math.Seq.{take-suc}
use Rattle.std.proofs.lemmas.List.{map_push}
use Rattle.std.proofs.lemmas.List.Elements.{All-append, All-cons, All-nil}
use Rattle.bid_rules.specs.Goods.{AreOwners, player_count}
use Rattle.input_commands.specs.Players.{player_of, players_of}
use Rattle.input_commands.proofs.goods.players_of.Goals as goal

pub loop-member-preserved : goal.loop-member-preserved
loop-member-preserved c =
    let case = c.args.case.now in
    let members = c.args.members.now in
    let i = c.loop-member.member-index in
    let player = c.player_of.result in
    let pushed : c.push.new.self.items ≡ c.loop-member.players.items ++ player ∷ [] = c.push.ensures.items in
    let within : i < length members = c.loop-member-test.true in
    let next : i + 1 ≡ suc i = omega arith in
    let more : take (i + 1) members ≡ take i members ++ get_or members i 0 ∷ [] = ap (λ (n : ℕ). take n members) next ∙ take-suc members i 0 within in
    let is : player ≡ player_of case (get_or members i 0) = c.player_of.ensures.player in
    let owns = λ (owner : ℕ). (1 ≤ owner) × (owner ≤ player_count case) in record {
      players = pushed ∙ ap (λ (ps : List ℕ). ps ++ player ∷ []) c.loop-member.invariant.players
          ∙ ap (λ (p : ℕ). players_of case (take i members) ++ p ∷ []) is
          ∙ sym (map_push (player_of case) (take i members) (get_or members i 0))
          ∙ sym (ap (players_of case) more);
      few = c.push.ensures.len ∙ ap (λ (n : ℕ). n + 1) c.loop-member.invariant.few;
      owners = subst (AreOwners case) (sym pushed)
          (All-append owns c.loop-member.players.items (player ∷ []) c.loop-member.invariant.owners
          (All-cons owns player [] (c.player_of.ensures.low, c.player_of.ensures.high) (All-nil owns)));
    }
