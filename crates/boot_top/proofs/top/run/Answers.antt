-- What the command answered is what is answered to the words.
use Rattle.std.proofs.Common.{rules, ◌≡◌, ℕ, true, List, Option, IfSome, Global, map, string_bytes, subst, refl}
use Rattle.std.specs.Io.KnownBytes.{Appends}
use Rattle.wire_http.specs.Response.{IsWhole}
use Rattle.wire_l4.specs.Segment.{Segment}
use Rattle.boot_words.specs.declared.task.Emit.TheVariants as emit
use Rattle.boot_words.specs.declared.task.ExtractTask.{ExtractTask}
use Rattle.boot_words.specs.declared.task.Task.TheVariants as task
use Rattle.tap_core.specs.Peers.{Succeeds}
use Rattle.boot_top.specs.Commands.{AskFor, AskToExtract}
use Rattle.boot_top.specs.HonestPeers.{HasHonestPeer}
use Rattle.boot_top.specs.Scripts.{SaysTrace, DecidesTrace}
use Rattle.boot_top.specs.Texts.{IsEight, IsUnbuilt}
use Rattle.boot_top.proofs.Exact.{honest-of}
use Rattle.boot_top.proofs.Ran.{asked-one, extract-one, extract-runs}
use Rattle.boot_top.proofs.Memory.{no-memory}
use Rattle.boot_top.proofs.Followed.{text-runs, unbuilt-agrees, trace-agrees, boot-answers, tftp-answers}
use Rattle.session_text.specs.Sessions.{session_of}
use Rattle.script_text.specs.Scripts.{script_of}
use Rattle.boot_top.proofs.top.run.Goals as goal

pub returns-in-Ok-Extract-clause-answers : goal.returns-in-Ok-Extract-clause-answers
returns-in-Ok-Extract-clause-answers g c asked-task ask =
    let words = map (string_bytes {Z = Global}) c.args.words.now.items in
    let t = c.in-Ok-Extract.task in
    let asked : AskToExtract words t = search rules in
    let e = c.extract.ensures in
    asked-one words (task.Extract t) asked-task _ _ _ c.extract.result asked ask
    (extract-runs t _ _ _ c.extract.result refl e.others e.success e.otherwise e.refused e.front e.nothing e.no_image
    e.read_whole e.read_first e.taken e.too_long e.failed e.long e.source e.sink e.source_count e.sink_count)

pub returns-in-Ok-Boot-clause-answers : goal.returns-in-Ok-Boot-clause-answers
returns-in-Ok-Boot-clause-answers g c asked-task ask =
    let words = map (string_bytes {Z = Global}) c.args.words.now.items in
    let asked : AskFor words c.in-Ok-Boot.field-0 = search rules in
    let e = c.follow_text.ensures in
    let fed = c.new.ensures in
    asked-one words c.in-Ok-Boot.field-0 asked-task _ _ _ c.follow_text.result asked ask
    (boot-answers c.in-Ok-Boot.field-0 _ _ _ _ _ c.in-Ok-Boot.field-0-is
    (text-runs session_of IsUnbuilt IsEight unbuilt-agrees _ _ _ c.follow_text.result refl e.others (e.said tt fed) (e.good tt fed) (e.refused tt fed) (e.front tt fed) e.nothing
    e.read_whole e.read_first e.taken e.too_long e.failed e.long e.source e.sink e.source_count e.sink_count))

pub returns-in-Ok-Tftp-clause-answers : goal.returns-in-Ok-Tftp-clause-answers
returns-in-Ok-Tftp-clause-answers g c asked-task ask =
    let words = map (string_bytes {Z = Global}) c.args.words.now.items in
    let asked : AskFor words c.in-Ok-Tftp.field-0 = search rules in
    let e = c.follow_text-in-Ok-Tftp.ensures in
    let fed = c.new-in-Ok-Tftp.ensures in
    asked-one words c.in-Ok-Tftp.field-0 asked-task _ _ _ c.follow_text-in-Ok-Tftp.result asked ask
    (tftp-answers c.in-Ok-Tftp.field-0 _ _ _ _ _ c.in-Ok-Tftp.field-0-is
    (text-runs session_of IsUnbuilt IsEight unbuilt-agrees _ _ _ c.follow_text-in-Ok-Tftp.result refl e.others (e.said tt fed) (e.good tt fed) (e.refused tt fed) (e.front tt fed) e.nothing
    e.read_whole e.read_first e.taken e.too_long e.failed e.long e.source e.sink e.source_count e.sink_count))

pub returns-in-Ok-Script-clause-answers : goal.returns-in-Ok-Script-clause-answers
returns-in-Ok-Script-clause-answers g c asked-task ask =
    let words = map (string_bytes {Z = Global}) c.args.words.now.items in
    let asked : AskFor words task.Script = search rules in
    let e = c.follow_text-in-Ok-Script.ensures in
    let fed = c.new-in-Ok-Script.ensures in
    asked-one words task.Script asked-task _ _ _ c.follow_text-in-Ok-Script.result asked ask
    (text-runs script_of SaysTrace DecidesTrace trace-agrees _ _ _ c.follow_text-in-Ok-Script.result refl e.others (e.said tt fed) (e.good tt fed) (e.refused tt fed) (e.front tt fed) e.nothing
    e.read_whole e.read_first e.taken e.too_long e.failed e.long e.source e.sink e.source_count e.sink_count)

pub returns-in-Ok-Extract-clause-honest_download : goal.returns-in-Ok-Extract-clause-honest_download
returns-in-Ok-Extract-clause-honest_download g c t ask =
    let words = map (string_bytes {Z = Global}) c.args.words.now.items in
    let asked : AskToExtract words c.in-Ok-Extract.task = search rules in
    let same : c.in-Ok-Extract.task ≡ t = extract-one words c.in-Ok-Extract.task t asked ask in
    subst (λ (x : ExtractTask). IfSome (g.S.Source.left c.args.src.now) (λ input. (irs : ℕ) (heard : List (Option Segment)) (stream : List ℕ) → HasHonestPeer input irs heard stream
    → (c.extract.result ≡ 0 → Succeeds x.buffer irs heard)
    × (c.extract.result ≡ 1 → Succeeds x.buffer irs heard → ⊥)
    × (c.extract.result ≡ 0 → x.emit ≡ emit.Image → (body : List ℕ) × IsWhole stream true 200 body
    × Appends (g.K.Sink.held c.args.out.now) (g.K.Sink.held c.extract.new.out) body))) same
    (honest-of (g.S.Source.left c.args.src.now) c.in-Ok-Extract.task c.extract.result (Appends (g.K.Sink.held c.args.out.now) (g.K.Sink.held c.extract.new.out))
    c.extract.ensures.success c.extract.ensures.otherwise)

pub returns-in-Err-OutOfResources-clause-answers : goal.returns-in-Err-OutOfResources-clause-answers
returns-in-Err-OutOfResources-clause-answers g c task ask = no-memory task _ _ _ refl refl refl
