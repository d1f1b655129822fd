-- The report of `extract`: there is no lease and no URI, and the peer is the destination of the segment that asks for the
-- connection.
use Rattle.std.specs.Prelude.{length, None, option_map}
use Rattle.efi_base.specs.declared.plain.Peer.{Peer}
use Rattle.doc_text.specs.declared.ends.DownloadEnd.TheVariants.{Load}
use Rattle.doc_text.specs.declared.report.Report.{Report}
use Rattle.tcp_recv.specs.Stream.{front, is_over}
use Rattle.tap_core.specs.Openings.{Opening}
use Rattle.tap_core.specs.Shown.{last_tick, sent_count, heard_count}
use Rattle.tap_core.specs.Shows.{Telling}

abbrev pub peer_of : Opening → Peer
peer_of o = record { addr = record { 0 = o.dest }; port = o.dport }

-- the report of what a capture shows; the counts and the tick go up to the record at which the download ends
abbrev pub report_of : Telling → Report
report_of t = record {
  lease = None;
  uri = None;
  peer = option_map peer_of t.opening;
  accepted = length (front t.board.kept);
  fin = is_over t.board;
  outcome = Load t.end;
  tick = record { 0 = last_tick t.upto };
  sent = sent_count t.opening t.upto;
  heard = heard_count t.opening t.upto;
}
