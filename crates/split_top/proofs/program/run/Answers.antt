use Rattle.std.proofs.Common.{map, string_bytes, subst}
use Rattle.command_results.specs.Endings.{ending_of}
use Rattle.command_results.specs.ObjectUse.{use_of}
use Rattle.serving.specs.Served.{tells_of}
use Rattle.split_top.specs.Causes.{HasCauses, TakesMemory}
use Rattle.split_top.specs.Outside.{outside_of}
use Rattle.split_top.specs.Runs.{Ran, tells_by}
use Rattle.split_top.proofs.CauseLaws.{has_causes}
use Rattle.split_top.proofs.Finishing.{is_complete}
use Rattle.split_top.proofs.OneCommand.{one_command}
use Rattle.split_top.proofs.ServeLaws.{is_served}
use Rattle.split_top.proofs.program.run.Goals as goal

pub returns-clause-holds : goal.returns-clause-holds
returns-clause-holds g c =
    let tells = tells_by g.D.Disk g.P.Port (tells_of g.P.Link.Source g.P.Link.Sink) g.C.Clock g.X.Dial (tells_of g.X.Link.Source g.X.Link.Sink) in
    let output = use_of g.O.Sink.written g.O.Sink.faults c.args.output.now c.write_ending.new.output in
    let outside = outside_of c.args.disk.now c.decide-ending.new.disk c.args.port.now c.decide-ending.new.port c.args.clock.now c.decide-ending.new.clock c.args.dialer.now c.decide-ending.new.dialer
    (use_of g.I.Source.left g.I.Source.faults c.args.input.now c.decide-ending.new.input) output in
    let words = map string_bytes c.args.words.now in
    let status = c.write_ending.result.code in
    let ran : Ran tells outside words status = (ending_of c.decide-ending.result, c.decide-ending.ensures.comes output, c.write_ending.ensures.ends) in
    record {
      ran = ran;
      causes = has_causes tells outside words status ran;
      complete = is_complete c.events_law.ensures.no_fault c.input_answer_law.ensures.one c.input_answer_law.ensures.ends tells outside words status ran;
      memory = λ command row spare nine.
          let shown = subst (HasCauses tells outside words) nine (has_causes tells outside words status ran) in
          spare (subst TakesMemory (one_command words shown.1.0 command shown.1.1 row) shown.1.2);
      headline = λ port workers count row. is_served tells outside
          (c.headline_law.ensures.any c.args.disk.now c.decide-ending.new.disk c.args.port.now c.decide-ending.new.port c.args.clock.now c.decide-ending.new.clock)
          words port workers count status row ran;
    }
