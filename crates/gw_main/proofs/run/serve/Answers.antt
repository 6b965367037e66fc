use Rattle.std.proofs.Common.{refl}
use Rattle.gw_main.specs.Conversations.{Converses, Fails}
use Rattle.gw_main.specs.Files.{FileConverses, FileFails}
use Rattle.gw_main.proofs.Conversing.{ends_told, fails_of_memory}
use Rattle.gw_main.proofs.FileConversing.{file_fails_of_memory}
use Rattle.gw_main.proofs.run.serve.Goals as goal

pub returns-in-Input : goal.returns-in-Input
returns-in-Input g c =
    let comes = Converses g.S.Source.took g.S.Source.ended g.S.Source.failures g.K.Sink.wrote g.K.Sink.failures c.args.wanted.workers c.args.wanted.options c.args.reader.now
    c.converse.new.reader c.args.writer.now c.converse.new.writer in
    let fails = Fails g.S.Source.took g.S.Source.ended g.S.Source.failures g.K.Sink.wrote g.K.Sink.failures c.args.wanted.workers c.args.wanted.options c.args.reader.now
    c.converse.new.reader c.args.writer.now c.converse.new.writer in
    let memory = fails_of_memory g.S.Source.took g.S.Source.ended g.S.Source.failures g.K.Sink.wrote g.K.Sink.failures c.args.wanted.workers c.args.wanted.options c.args.reader.now
    c.converse.new.reader c.args.writer.now c.converse.new.writer in
    rw c.in-Input.is (ends_told g.E.Sink.wrote g.E.Sink.failures comes fails c.args.errors.now c.end.new.errors c.end.result c.converse.result
    c.converse.ensures.converses c.converse.ensures.fails memory c.end.ensures)

pub returns-in-File : goal.returns-in-File
returns-in-File g c =
    let opened = c.opener-opened.result in
    let over = c.converse_over_file-over in
    let comes = FileConverses g.F.Source.took g.F.Source.ended g.F.Source.failures g.S.Source.took g.S.Source.ended g.S.Source.failures g.K.Sink.wrote
    g.K.Sink.failures c.args.wanted.workers c.args.wanted.options opened c.args.reader.now over.new.reader c.args.writer.now over.new.writer in
    let fails = FileFails g.F.Source.took g.F.Source.ended g.F.Source.failures g.S.Source.took g.S.Source.ended g.S.Source.failures
    g.K.Sink.wrote g.K.Sink.failures c.args.wanted.workers c.args.wanted.options opened c.args.reader.now over.new.reader c.args.writer.now over.new.writer in
    let memory = file_fails_of_memory g.F.Source.took g.F.Source.ended g.F.Source.failures g.S.Source.took g.S.Source.ended g.S.Source.failures
    g.K.Sink.wrote g.K.Sink.failures c.args.wanted.workers c.args.wanted.options opened c.args.reader.now over.new.reader c.args.writer.now over.new.writer in
    let ends = ends_told g.E.Sink.wrote g.E.Sink.failures comes fails c.args.errors.now c.end-in-File.new.errors c.end-in-File.result over.result
    over.ensures.converses over.ensures.fails memory c.end-in-File.ensures in
    rw c.in-File.is (opened, (c.in-File.path, c.opener-opened.ensures, refl), ends)
