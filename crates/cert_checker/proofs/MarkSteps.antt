-- The steps of the judge in a tree, mark by mark.
use Rattle.std.proofs.Common.{◌≡◌, ℕ, Some, ◌<◌, ◌≤◌, ◌∙◌, List, ◌++◌, length, ap, subst, sym}
use Rattle.cert_reader.specs.Kinds.{kind_of}
use Rattle.cert_reader.specs.Reading.{HasLineToCome, IsRead, Reading, with_mark}
use Rattle.cert_reader.specs.Text.{CanSayAll, Said}
use Rattle.cert_reader.specs.Forms.{forms_of}
use Rattle.cert_checker.specs.Lines.{IsUpTo, KnowsLines, MarkGoesOn, kind_of_lines}
use Rattle.cert_checker.specs.declared.lines.Lines.{Lines}
use Rattle.cert_checker.proofs.LineSteps.{mark_goes, mark_some, read_long}

-- a mark more was read: the text goes on with it
pub next_mark_goes : (lines : Lines) (a b : Reading) (taken more : List ℕ) (rest : List Said) (mark : ℕ) (up_to : IsUpTo a lines taken) → b.counts ≡ a.counts → IsRead b (taken ++ more) (with_mark up_to.said mark)
    → CanSayAll (forms_of b.counts) (with_mark up_to.said mark ++ rest) → MarkGoesOn lines up_to.said mark
next_mark_goes lines a b taken more rest mark up_to same read fits = mark_goes lines a b up_to.said rest mark (taken ++ more) up_to.knows up_to.kind same read fits

-- and the state after it is that of all bytes taken
pub up_to_mark : (before after : Lines) (a b : Reading) (taken more : List ℕ) (mark : ℕ) (up_to : IsUpTo a before taken) → b.counts ≡ a.counts → IsRead b (taken ++ more) (with_mark up_to.said mark) → HasLineToCome b
    → kind_of_lines after ≡ kind_of_lines before → KnowsLines (with_mark up_to.said mark) after → IsUpTo b after (taken ++ more)
up_to_mark before after a b taken more mark up_to same read to_come kind knows = record {
  said = with_mark up_to.said mark;
  read = read;
  kind = ap kind_of same ∙ up_to.kind ∙ ap Some (sym kind);
  knows = knows;
  to_come = to_come;
  some = mark_some a b up_to.said mark (taken ++ more) up_to.some up_to.long read;
  long = read_long b (taken ++ more) (with_mark up_to.said mark) read;
}

-- with as many lines and the same counts, others are still to come
pub still_open : (a b : Reading) → b.lines ≡ a.lines → b.counts ≡ a.counts → HasLineToCome a → HasLineToCome b
still_open a b lines counts more = subst (λ n. n < length (forms_of b.counts)) (sym lines) (subst (λ c. a.lines < length (forms_of c)) (sym counts) more)

-- the end of the tree's line says nothing more
pub up_to_end : (lines : Lines) (a b : Reading) (taken more : List ℕ) (up_to : IsUpTo a lines taken) → b.lines ≡ a.lines → b.counts ≡ a.counts → IsRead b (taken ++ more) up_to.said → IsUpTo b lines (taken ++ more)
up_to_end lines a b taken more up_to same counts read = record {
  said = up_to.said;
  read = read;
  kind = ap kind_of counts ∙ up_to.kind;
  knows = up_to.knows;
  to_come = still_open a b same counts up_to.to_come;
  some = subst (λ n. 2 ≤ n) (sym same) up_to.some;
  long = up_to.long ∙ sym same;
}
