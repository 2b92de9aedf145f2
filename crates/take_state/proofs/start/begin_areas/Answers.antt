use Rattle.std.proofs.Common.{◌≡◌, ◌∙◌, ℕ, length, ap, arith}
use Rattle.rec_bytes.specs.Views.{view}
use Rattle.take_disk.specs.declared.area.Area.TheVariants.{Essence, Commits}
use Rattle.take_state.proofs.StartLemmas.{map_ok, begun}
use Rattle.take_state.proofs.start.begin_areas.Goals as goal

pub returns-clause-begun : goal.returns-clause-begun
returns-clause-begun g c =
    let cfg = view c.args.cfg.now in
    let head = c.in_ok-write_at.ensures.wrote in
    let note = c.in_ok-write_at-2.ensures.wrote in
    let says = c.put_head-2.ensures.says in
    map_ok c.sync-2.result _ _ c.sync-2.ensures.synced (λ sync. record {
      essence_len = omega (
        arith,
        c.sync-2.ensures.lengths Essence,
        note.lengths.same,
        c.sync.ensures.lengths Essence,
        head.lengths.whole,
        c.requires.empty Essence,
        ap (length {A = ℕ}) c.put_head.ensures,
      );
      commits_len = omega (
        arith,
        c.sync-2.ensures.lengths Commits,
        note.lengths.whole,
        c.sync.ensures.lengths Commits,
        head.lengths.same,
        c.requires.empty Commits,
        c.put_head-2.array_long,
      );
      table = begun g.L.TakeLayout c.lays_out.ensures cfg g.D.TakeDisk g.met.D.TakeDisk.past g.met.D.TakeDisk.long _ _
          c.args.disk.now c.write_at.new.disk c.sync.new.self c.write_at-2.new.disk c.sync-2.new.self says.is_config c.put_head.ensures c.put_head-2.ensures.written
          c.requires.empty head.inside.torn head.written c.in_ok-sync.ensures.synced note.inside.torn note.written sync;
    })
