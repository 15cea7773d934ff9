mod Ranks
mod Skipping
mod Copied
mod Spanning
