use Rattle.std.proofs.Common.{Some, option_map, sym, ap, ◌∙◌}
use Rattle.httparse.specs.Spans.{header_bytes}
use Rattle.http_heads.specs.Fields.{Pair, is_named}
use Rattle.http_heads.proofs.FieldLemmas.{find_of_mapped}
use Rattle.http_heads.proofs.fields.named_value.Goals as goal

pub returns-in-Some : goal.returns-in-Some
returns-in-Some c =
    ap Some c.of.ensures
    ∙ ap (λ found. option_map (λ (p : Pair). p.1) (option_map (header_bytes c.args.bytes.now) found)) c.in-Some.ensures.first
    ∙ sym (ap (option_map (λ (p : Pair). p.1)) (find_of_mapped (is_named c.args.name.now) (header_bytes c.args.bytes.now) c.args.fields.now))

pub returns-in-None : goal.returns-in-None
returns-in-None c =
    ap (λ found. option_map (λ (p : Pair). p.1) (option_map (header_bytes c.args.bytes.now) found)) c.in-None.ensures.first
    ∙ sym (ap (option_map (λ (p : Pair). p.1)) (find_of_mapped (is_named c.args.name.now) (header_bytes c.args.bytes.now) c.args.fields.now))
