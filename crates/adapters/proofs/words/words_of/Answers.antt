use Rattle.std.proofs.Common.{rules, map, string_bytes, ◌≡◌, ◌++◌, ◌∷◌, [], ap, ◌∙◌}
use Rattle.std.proofs.lemmas.List.{map-append}
use Rattle.adapters.proofs.WordLists.{ended, no_words, one_more}
use Rattle.adapters.proofs.words.words_of.Goals as goal

-- after the last argument
pub returns-in_default : goal.returns-in_default
returns-in_default g c = ended (g.A.Arguments.told c.args.arguments.now) c.loop-place.words.items c.loop-place.place c.loop-place.invariant.begun c.loop-place.invariant.words (search rules)

-- at a word that is no UTF-8
pub returns-in_default-from_utf8 : goal.returns-in_default-from_utf8
returns-in_default-from_utf8 g c =
    no_words (g.A.Arguments.told c.args.arguments.now) (map string_bytes c.new.result.items) c.in-Some.bytes.items c.loop-place.place c.loop-place.invariant.begun (search rules) (λ good. search rules) (search rules)

-- at one more word
pub loop-place-preserved : goal.loop-place-preserved
loop-place-preserved g c =
    let pushed : c.push.new.self.items ≡ c.loop-place.words.items ++ c.in-Ok.word ∷ [] = search rules in record {
      begun = search rules;
      words = one_more (g.A.Arguments.told c.args.arguments.now) (map string_bytes c.loop-place.words.items) (map string_bytes c.push.new.self.items) (string_bytes c.in-Ok.word) c.loop-place.place
          c.loop-place.invariant.begun c.loop-place.invariant.words (search rules) (ap (map string_bytes) pushed ∙ map-append string_bytes c.loop-place.words.items (c.in-Ok.word ∷ []));
    }
