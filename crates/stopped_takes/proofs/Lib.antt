mod FirstLemmas
mod StoppedLemmas
