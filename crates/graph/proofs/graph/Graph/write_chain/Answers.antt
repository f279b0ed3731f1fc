use Rattle.std.proofs.Common.{◌<◌, arith, rules}
use Rattle.graph.proofs.Readiness.{last_some, read_inside}
use Rattle.graph.proofs.Writing.{on_way, way_on, last_inside, written_more}
use Rattle.graph.proofs.graph.Graph.write_chain.Goals as goal

pub bounds-chain-at : goal.bounds-chain-at
bounds-chain-at g c =
    let way = on_way g.L.Length.kind c.args.self.now.marks c.args.self.now.rules.now c.args.chain.now.last c.args.chain.now.mark c.args.chain.now.count c.requires.returns c.loop-place.place c.loop-place.at c.loop-place-test.true c.loop-place.auto.place c.loop-place.invariant.0 in
    omega (arith, way.0, c.args.self.now.few)

pub offset_bounds-chain-at : goal.offset_bounds-chain-at
offset_bounds-chain-at g c =
    let way = on_way g.L.Length.kind c.args.self.now.marks c.args.self.now.rules.now c.args.chain.now.last c.args.chain.now.mark c.args.chain.now.count c.requires.returns c.loop-place.place c.loop-place.at c.loop-place-test.true c.loop-place.auto.place c.loop-place.invariant.0 in
    let inside : c.loop-place.at < 256 = omega (arith, way.0, c.args.self.now.few) in
    search rules

pub unwrap-index-requires : goal.unwrap-index-requires
unwrap-index-requires g c = last_some g.L.Length.kind c.args.self.now.rules.now c.args.chain.now.last c.loop-place.at (on_way g.L.Length.kind c.args.self.now.marks c.args.self.now.rules.now c.args.chain.now.last c.args.chain.now.mark c.args.chain.now.count c.requires.returns c.loop-place.place c.loop-place.at c.loop-place-test.true c.loop-place.auto.place c.loop-place.invariant.0).1

pub bounds-rules-index : goal.bounds-rules-index
bounds-rules-index g c = last_inside g.L.Length.kind c.args.self.now.marks c.args.self.now.rules.now c.args.chain.now.last c.args.chain.now.mark c.args.chain.now.count c.requires.returns c.loop-place.place c.loop-place.at c.loop-place-test.true c.loop-place.auto.place c.loop-place.invariant.0 c.unwrap-index.result c.unwrap-index.ensures

pub offset_bounds-rules-index : goal.offset_bounds-rules-index
offset_bounds-rules-index g c = omega (arith, last_inside g.L.Length.kind c.args.self.now.marks c.args.self.now.rules.now c.args.chain.now.last c.args.chain.now.mark c.args.chain.now.count c.requires.returns c.loop-place.place c.loop-place.at c.loop-place-test.true c.loop-place.auto.place c.loop-place.invariant.0 c.unwrap-index.result c.unwrap-index.ensures)

pub overflow_cast-at : goal.overflow_cast-at
overflow_cast-at g c =
    let inside = last_inside g.L.Length.kind c.args.self.now.marks c.args.self.now.rules.now c.args.chain.now.last c.args.chain.now.mark c.args.chain.now.count c.requires.returns c.loop-place.place c.loop-place.at c.loop-place-test.true c.loop-place.auto.place c.loop-place.invariant.0 c.unwrap-index.result c.unwrap-index.ensures in
    let marks = read_inside g.L.Length.kind c.args.self.now.marks c.args.self.now.rules.now c.args.self.now.sound c.unwrap-index.result c.index-rules-index.result inside c.index-rules-index.is in
    omega (arith, c.args.self.now.few, marks.0)

pub loop-place-preserved : goal.loop-place-preserved
loop-place-preserved g c = (
  way_on g.L.Length.kind c.args.self.now.marks c.args.self.now.rules.now c.args.chain.now.last c.args.chain.now.mark c.args.chain.now.count c.requires.returns c.loop-place.place c.loop-place.at c.loop-place-test.true c.loop-place.auto.place c.loop-place.invariant.0
      c.unwrap-index.result c.index-rules-index.result c.unwrap-index.ensures c.index-rules-index.is,
  written_more g.L.Length.kind c.args.self.now.marks c.args.self.now.rules.now c.args.chain.now.last c.args.chain.now.mark c.args.chain.now.count c.requires.returns c.loop-place.place c.loop-place.at c.loop-place-test.true c.loop-place.auto.place c.loop-place.invariant.0
      c.unwrap-index.result c.index-rules-index.result c.unwrap-index.ensures c.index-rules-index.is c.args.list.now c.loop-place.list c.requires.fits c.loop-place.invariant.1,
)
